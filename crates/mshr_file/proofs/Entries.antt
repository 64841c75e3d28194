-- How the registers change with the entries: one more after the others, and the first of a line taken out.
use Rattle.std.proofs.Common.{◌≡◌, ◌≢◌, ℕ, suc, ◌+◌, ◌<◌, ◌≤◌, ◌==◌, Bool, true, false, nat_lt, if◌then◌else◌, List, []}
use Rattle.std.proofs.Common.{◌∷◌, ◌++◌, length, filter, map, take, refl, sym, ap, ⊎_elim, arith, ◌∙◌, get_or, Some}
use Rattle.std.specs.Prelude.{◌||◌}
use Rattle.std.specs.List.{count_by, list_any, position, position_or_len, prefix_len, remove}
use Rattle.std.specs.Set.{remove_key}
use Rattle.std.proofs.Math.Seq.{take-append_seam}
use Rattle.std.proofs.lemmas.Bool.{cases_Bool, cases_eq, eq-eqb, ne_eqb, eqb-true, lt-ltb}
use Rattle.std.proofs.lemmas.List.{append-nil, append_assoc, map-append, length-append, length-map, length-take-le}
use Rattle.std.proofs.lemmas.List.Elements.{filter-append}
use Rattle.std.proofs.lemmas.List.Folds.{list_any-append}
use Rattle.std.proofs.lemmas.List.Sums.{sum_by-append, sum_by-cons, prefix_len-le-length}
use Rattle.target_list.specs.declared.target.Target.{Target}
use Rattle.target_list.specs.Target.{is_load, front_loads}
use Rattle.mshr_file.specs.declared.registers.Register.{Register}
use Rattle.mshr_file.specs.declared.waiting.Waiting.{Waiting}
use Rattle.mshr_file.specs.Miss.{is_for, targets_of, is_waited, has_miss, has_tag, count_of, AddsTarget, TakesTargets}
use Rattle.mshr_file.specs.Miss.{HasEachTagOnce}
use Rattle.mshr_file.specs.Waiting.{waits_for, at_line, put_first, by_line, count_at, is_past, HasEntryByTag}
use Rattle.mshr_file.specs.Waiting.{TakesEntries}
use Rattle.mshr_file.proofs.Laws.{order_added, order_taken, once_added, once_taken}
use Rattle.mshr_file.proofs.Lists.{one-if, zero-if, either-one, count_by-yes, count_by-no, place_is}
use Rattle.mshr_file.proofs.ByLine.{waits_at, counts_at}

-- how many registers there are with one more target
length-put_first : (entry : Waiting) (registers : List Register) →
    length (put_first entry registers) + (if list_any (is_for entry.line.0) registers then 1 else 0)
    ≡ length registers + 1
unfolding put_first
length-put_first entry [] = refl
length-put_first entry (register ∷ registers) =
    ⊎_elim
    (λ here. rw here refl)
    (λ elsewhere. rw elsewhere (let later = length-put_first entry registers in omega (arith, later)))
    (cases_Bool (register.line.0 == entry.line.0))

for-put_other : (entry : Waiting) (registers : List Register) (line : ℕ) → line ≢ entry.line.0 →
    list_any (is_for line) (put_first entry registers) ≡ list_any (is_for line) registers
unfolding put_first
for-put_other entry [] line differs =
    let isnt : (entry.line.0 == line) ≡ false = ne_eqb entry.line.0 line (λ same. differs (sym same)) in rw isnt refl
for-put_other entry (register ∷ registers) line differs =
    ⊎_elim
    (λ here. rw here refl)
    (λ elsewhere. rw elsewhere (ap (λ more. is_for line register || more) (for-put_other entry registers line differs)))
    (cases_Bool (register.line.0 == entry.line.0))

for-put_first : (entry : Waiting) (registers : List Register) →
    list_any (is_for entry.line.0) (put_first entry registers) ≡ true
unfolding put_first
for-put_first entry [] =
    let is : (entry.line.0 == entry.line.0) ≡ true = eq-eqb entry.line.0 entry.line.0 refl in rw is refl
for-put_first entry (register ∷ registers) =
    ⊎_elim
    (λ here. rw here (rw here refl))
    (λ elsewhere. rw elsewhere (rw elsewhere (for-put_first entry registers)))
    (cases_Bool (register.line.0 == entry.line.0))

for-entries : (entries : List Waiting) (line : ℕ) →
    list_any (is_for line) (by_line entries) ≡ list_any (waits_for line) entries
unfolding by_line
for-entries [] line = refl
for-entries (entry ∷ entries) line =
    ⊎_elim
    (λ same.
    let is : (entry.line.0 == line) ≡ true = eq-eqb entry.line.0 line (sym same) in
    let there : list_any (is_for line) (put_first entry (by_line entries)) ≡ true =
    rw same (for-put_first entry (by_line entries)) in
    there ∙ sym (first-counts entry entries line is))
    (λ differs.
    let isnt : (entry.line.0 == line) ≡ false = ne_eqb entry.line.0 line (λ same. differs (sym same)) in
    for-put_other entry (by_line entries) line differs ∙ for-entries entries line
    ∙ sym (first-counts-not entry entries line isnt))
    (cases_eq line entry.line.0)
  where
    first-counts : (entry : Waiting) (entries : List Waiting) (line : ℕ) → (entry.line.0 == line) ≡ true →
        list_any (waits_for line) (entry ∷ entries) ≡ true
    first-counts entry entries line is = rw is refl

    first-counts-not : (entry : Waiting) (entries : List Waiting) (line : ℕ) → (entry.line.0 == line) ≡ false →
        list_any (waits_for line) (entry ∷ entries) ≡ list_any (waits_for line) entries
    first-counts-not entry entries line isnt = rw isnt refl

-- An entry whose line is not among the later ones is one register more.
pub length_by_line : (entry : Waiting) (entries : List Waiting) →
    length (by_line (entry ∷ entries)) + (if list_any (waits_for entry.line.0) entries then 1 else 0)
    ≡ length (by_line entries) + 1
unfolding by_line
length_by_line entry entries =
    let more = length-put_first entry (by_line entries) in
    let same = one-if _ _ (for-entries entries entry.line.0) in
    omega (arith, more, same)

-- Whether there is a register for a line is whether an entry waits for it.
pub has_miss_at : (entries : List Waiting) (line : ℕ) →
    has_miss (by_line entries) line ≡ list_any (waits_for line) entries
has_miss_at entries line = ap is_waited (waits_at entries line) ∙ waited entries line
  where
    waited : (entries : List Waiting) (line : ℕ) → is_waited (at_line line entries) ≡ list_any (waits_for line) entries
    waited [] line = refl
    waited (entry ∷ entries) line =
        ⊎_elim (λ is. rw is refl) (λ isnt. rw isnt (waited entries line)) (cases_Bool (waits_for line entry))

count_at-append : (test : Target → Bool) (front back : List Waiting) →
    count_at test (front ++ back) ≡ count_at test front + count_at test back
count_at-append test front back = sum_by-append (λ entry. if test entry.target then 1 else 0) front back

at_line-append : (line : ℕ) (front back : List Waiting) →
    at_line line (front ++ back) ≡ at_line line front ++ at_line line back
at_line-append line front back =
    ap (map (λ entry. entry.target)) (filter-append (waits_for line) front back)
    ∙ map-append (λ (entry : Waiting). entry.target) (filter (waits_for line) front) (filter (waits_for line) back)

at_line-one : (line : ℕ) (entry : Waiting) → (entry.line.0 == line) ≡ true →
    at_line line (entry ∷ []) ≡ entry.target ∷ []
at_line-one line entry is = rw is refl

at_line-none : (line : ℕ) (entry : Waiting) → (entry.line.0 == line) ≡ false → at_line line (entry ∷ []) ≡ []
at_line-none line entry isnt = rw isnt refl

-- An entry after the others is a target after those of its line.
pub pushed_entry : (entries : List Waiting) (entry : Waiting) →
    AddsTarget (by_line entries) (by_line (entries ++ entry ∷ [])) entry.line.0 entry.target
pushed_entry entries entry = record {
  here = here;
  others = others;
  counts = counts;
  ordered = order_added (by_line entries) (by_line (entries ++ entry ∷ [])) entry.line.0 entry.target here others;
  once = once_added (by_line entries) (by_line (entries ++ entry ∷ [])) entry.target counts;
}
  where
    here : targets_of (by_line (entries ++ entry ∷ [])) entry.line.0 ≡ targets_of (by_line entries) entry.line.0
        ++ entry.target ∷ []
    here =
        let is : (entry.line.0 == entry.line.0) ≡ true = eq-eqb entry.line.0 entry.line.0 refl in
        waits_at (entries ++ entry ∷ []) entry.line.0
        ∙ at_line-append entry.line.0 entries (entry ∷ [])
        ∙ ap (λ targets. at_line entry.line.0 entries ++ targets) (at_line-one entry.line.0 entry is)
        ∙ ap (λ targets. targets ++ entry.target ∷ []) (sym (waits_at entries entry.line.0))

    others : (other : ℕ) → other ≢ entry.line.0 → targets_of (by_line (entries ++ entry ∷ [])) other
        ≡ targets_of (by_line entries) other
    others other differs =
        let isnt : (entry.line.0 == other) ≡ false = ne_eqb entry.line.0 other (λ same. differs (sym same)) in
        waits_at (entries ++ entry ∷ []) other
        ∙ at_line-append other entries (entry ∷ [])
        ∙ ap (λ targets. at_line other entries ++ targets) (at_line-none other entry isnt)
        ∙ append-nil (at_line other entries)
        ∙ sym (waits_at entries other)

    counts : (test : Target → Bool) → count_of test (by_line (entries ++ entry ∷ []))
        ≡ count_of test (by_line entries) + count_by test (entry.target ∷ [])
    counts test =
        let new = counts_at test (entries ++ entry ∷ []) in
        let old = counts_at test entries in
        let more = count_at-append test entries (entry ∷ []) in
        omega (arith, new, old, more)

any-push : (line : ℕ) (entries : List Waiting) (entry : Waiting) →
    list_any (waits_for line) (entries ++ entry ∷ [])
    ≡ (list_any (waits_for line) entries || ((entry.line.0 == line) || false))
any-push line entries entry = list_any-append (waits_for line) entries (entry ∷ [])

-- It is one register more where no entry was for its line.
pub length_pushed : (entries : List Waiting) (entry : Waiting) →
    length (by_line (entries ++ entry ∷ [])) + (if list_any (waits_for entry.line.0) entries then 1 else 0)
    ≡ length (by_line entries) + 1
length_pushed [] entry = length_by_line entry []
length_pushed (first ∷ entries) entry =
    let line = entry.line.0 in
    let later = length_pushed entries entry in
    let new = length_by_line first (entries ++ entry ∷ []) in
    let old = length_by_line first entries in
    ⊎_elim
    (λ same.
    let is : (entry.line.0 == first.line.0) ≡ true = eq-eqb entry.line.0 first.line.0 (sym same) in
    let there : list_any (waits_for first.line.0) (entries ++ entry ∷ []) ≡ true =
    any-push first.line.0 entries entry
    ∙ any-true (list_any (waits_for first.line.0) entries) (entry.line.0 == first.line.0) is in
    let one = one-if _ true there in
    let also : list_any (waits_for line) (first ∷ entries) ≡ true =
    let there : (first.line.0 == line) ≡ true = eq-eqb first.line.0 line same in rw there refl in
    let two = one-if _ true also in
    let equal = one-if _ _ (ap (λ l. list_any (waits_for l) entries) same) in
    omega (arith, later, new, old, one, two, equal))
    (λ differs.
    let isnt : (entry.line.0 == first.line.0) ≡ false = ne_eqb entry.line.0 first.line.0 (λ same. differs (sym same)) in
    let as_before : list_any (waits_for first.line.0) (entries ++ entry ∷ [])
    ≡ list_any (waits_for first.line.0) entries =
    any-push first.line.0 entries entry
    ∙ any-false (list_any (waits_for first.line.0) entries) (entry.line.0 == first.line.0) isnt in
    let one = one-if _ _ as_before in
    let other : list_any (waits_for line) (first ∷ entries) ≡ list_any (waits_for line) entries =
    let isnt : (first.line.0 == line) ≡ false = ne_eqb first.line.0 line differs in rw isnt refl in
    let two = one-if _ _ other in
    omega (arith, later, new, old, one, two))
    (cases_eq first.line.0 entry.line.0)
  where
    any-true : (a b : Bool) → b ≡ true → (a || (b || false)) ≡ true
    any-true true b e = refl
    any-true false b e = rw e refl

    any-false : (a b : Bool) → b ≡ false → (a || (b || false)) ≡ a
    any-false true b e = refl
    any-false false b e = rw e refl

-- The first entry of a line is taken out by its place.
pub first_taken : (p : Waiting → Bool) (entries : List Waiting) → list_any p entries ≡ true →
    remove entries (position_or_len p entries) ≡ remove_key p entries
first_taken p [] there = absurd cc
first_taken p (entry ∷ entries) there =
    ⊎_elim
    (λ here. rw here refl)
    (λ elsewhere.
    let next : position_or_len p (entry ∷ entries) ≡ suc (position_or_len p entries) =
    rw elsewhere (let one : 1 + position_or_len p entries ≡ suc (position_or_len p entries) = omega arith in one) in
    let kept : remove_key p (entry ∷ entries) ≡ entry ∷ remove_key p entries = rw elsewhere refl in
    ap (remove (entry ∷ entries)) next
    ∙ ap (λ rest. entry ∷ rest) (first_taken p entries (rw elsewhere at there))
    ∙ sym kept)
    (cases_Bool (p entry))

waited-at : (entries : List Waiting) (line : ℕ) → is_waited (at_line line entries) ≡ list_any (waits_for line) entries
waited-at entries line = ap is_waited (sym (waits_at entries line)) ∙ has_miss_at entries line

at_line-cons : (line : ℕ) (entry : Waiting) (front back : List Waiting) → at_line line front ≡ at_line line back →
    at_line line (entry ∷ front) ≡ at_line line (entry ∷ back)
at_line-cons line entry front back same =
    ⊎_elim (λ here. rw here (ap (λ targets. entry.target ∷ targets) same)) (λ elsewhere. rw elsewhere same)
    (cases_Bool (waits_for line entry))

head-taken : (line : ℕ) (entry : Waiting) (entries : List Waiting) → waits_for line entry ≡ true →
    TakesEntries (entry ∷ entries) line (entry.target ∷ []) entries
head-taken line entry entries here = record {
  here = rw here refl;
  others = λ other differs.
      let isnt : waits_for other entry ≡ false =
      ne_eqb entry.line.0 other (λ same. differs (sym same ∙ at)) in rw isnt refl;
  counts = λ test.
      let all = sum_by-cons (λ e. if test e.target then 1 else 0) entry entries in
      let one = sum_by-cons (λ target. if test target then 1 else 0) entry.target [] in
      omega (arith, all, one);
  lines =
      let more = length_by_line entry entries in
      let same = one-if _ _ (ap (λ l. list_any (waits_for l) entries) at) in
      let other = either-one (list_any (waits_for line) entries) in
      omega (arith, more, same, other);
}
  where
    at : entry.line.0 ≡ line
    at = eqb-true entry.line.0 line here

later-taken : (line : ℕ) (entry : Waiting) (old new : List Waiting) (taken : List Target) →
    waits_for line entry ≡ false →
    TakesEntries old line taken new → TakesEntries (entry ∷ old) line taken (entry ∷ new)
later-taken line entry old new taken elsewhere takes = record {
  here = skips old ∙ takes.here ∙ ap (λ targets. taken ++ targets) (sym (skips new));
  others = λ other differs. at_line-cons other entry new old (takes.others other differs);
  counts = λ test.
      let before = sum_by-cons (λ e. if test e.target then 1 else 0) entry old in
      let after = sum_by-cons (λ e. if test e.target then 1 else 0) entry new in
      let change = takes.counts test in
      omega (arith, before, after, change);
  lines =
      let before = length_by_line entry old in
      let after = length_by_line entry new in
      let as_before =
      one-if _ _ (sym (waited-at new entry.line.0) ∙ ap is_waited (takes.others entry.line.0 differs)
      ∙ waited-at old entry.line.0) in
      let change = takes.lines in
      let none = zero-if _ _ (also new) in
      omega (arith, before, after, as_before, change, none);
}
  where
    skips : (entries : List Waiting) → at_line line (entry ∷ entries) ≡ at_line line entries
    skips entries = rw elsewhere refl

    also : (entries : List Waiting) → list_any (waits_for line) (entry ∷ entries) ≡ list_any (waits_for line) entries
    also entries = rw elsewhere refl

    differs : entry.line.0 ≢ line
    differs same = let clash : true ≡ false = sym (eq-eqb entry.line.0 line same) ∙ elsewhere in absurd cc

pub takes_first : (line : ℕ) (entries : List Waiting) (d : Waiting) → list_any (waits_for line) entries ≡ true →
    TakesEntries entries line ((get_or entries (position_or_len (waits_for line) entries) d).target ∷ [])
    (remove_key (waits_for line) entries)
takes_first line [] d there = absurd cc
takes_first line (entry ∷ entries) d there =
    ⊎_elim
    (λ here.
    let at : position_or_len (waits_for line) (entry ∷ entries) ≡ 0 = rw here refl in
    let left : remove_key (waits_for line) (entry ∷ entries) ≡ entries = rw here refl in
    rw at (rw left (head-taken line entry entries here)))
    (λ elsewhere.
    let next : position_or_len (waits_for line) (entry ∷ entries) ≡ suc (position_or_len (waits_for line) entries) =
    rw elsewhere
    (let one : 1 + position_or_len (waits_for line) entries ≡ suc (position_or_len (waits_for line) entries) =
    omega arith in one) in
    let kept : remove_key (waits_for line) (entry ∷ entries) ≡ entry ∷ remove_key (waits_for line) entries =
    rw elsewhere refl in
    rw next
    (rw kept
    (later-taken
    line entry entries (remove_key (waits_for line) entries)
    ((get_or entries (position_or_len (waits_for line) entries) d).target ∷ []) elsewhere
    (takes_first line entries d (rw elsewhere at there)))))
    (cases_Bool (waits_for line entry))

-- What is taken in two steps is taken.
pub takes_more : (line : ℕ) (old now new : List Waiting) (first second : List Target) →
    TakesEntries old line first now →
    list_any (waits_for line) now ≡ true → TakesEntries now line second new →
    TakesEntries old line (first ++ second) new
takes_more line old now new first second before there after = record {
  here = before.here ∙ ap (λ targets. first ++ targets) after.here ∙ sym (append_assoc first second (at_line line new));
  others = λ other differs. after.others other differs ∙ before.others other differs;
  counts = λ test.
      let one = before.counts test in
      let two = after.counts test in
      let both = sum_by-append (λ target. if test target then 1 else 0) first second in
      omega (arith, one, two, both);
  lines =
      let one = before.lines in
      let none = zero-if _ true there in
      let two = after.lines in
      omega (arith, one, none, two);
}

-- Entries that were taken are targets that were taken.
pub takes_targets : (line : ℕ) (old new : List Waiting) (taken : List Target) → TakesEntries old line taken new →
    TakesTargets (by_line old) (by_line new) line taken
takes_targets line old new taken takes = record {
  here = here;
  others = others;
  counts = counts;
  ordered = order_taken (by_line old) (by_line new) line taken here others;
  once = once_taken (by_line old) (by_line new) taken counts;
}
  where
    here : targets_of (by_line old) line ≡ taken ++ targets_of (by_line new) line
    here = waits_at old line ∙ takes.here ∙ ap (λ targets. taken ++ targets) (sym (waits_at new line))

    others : (other : ℕ) → other ≢ line → targets_of (by_line new) other ≡ targets_of (by_line old) other
    others other differs = waits_at new other ∙ takes.others other differs ∙ sym (waits_at old other)

    counts : (test : Target → Bool) → count_of test (by_line old) ≡ count_of test (by_line new) + count_by test taken
    counts test =
        let before = counts_at test old in
        let after = counts_at test new in
        let change = takes.counts test in
        omega (arith, before, after, change)

-- The tags are still those of one entry at most.
pub tags_after : (line : ℕ) (old new : List Waiting) (taken : List Target) → HasEntryByTag old →
    TakesEntries old line taken new →
    HasEntryByTag new
tags_after line old new taken by_tag takes = record {
  once = λ tag. let few = by_tag.once tag in let change = takes.counts (has_tag tag) in omega (arith, few, change);
  small = let none = by_tag.small in let change = takes.counts (is_past 64) in omega (arith, none, change);
}

pub tags_pushed : (entries : List Waiting) (entry : Waiting) → HasEntryByTag entries → entry.target.tag < 64 →
    count_at (has_tag entry.target.tag) entries ≡ 0 → HasEntryByTag (entries ++ entry ∷ [])
tags_pushed entries entry by_tag small free = record {
  once = λ tag.
      let more = count_at-append (has_tag tag) entries (entry ∷ []) in
      let few = by_tag.once tag in
      ⊎_elim
      (λ same.
      let none : count_at (has_tag tag) entries ≡ 0 = rw same free in
      let one = at_most_one (has_tag tag) in
      omega (arith, more, none, one))
      (λ differs.
      let isnt : has_tag tag entry.target ≡ false = ne_eqb entry.target.tag tag (λ same. differs (sym same)) in
      let none = fails (has_tag tag) isnt in
      omega (arith, more, few, none))
      (cases_eq tag entry.target.tag);
  small =
      let more = count_at-append (is_past 64) entries (entry ∷ []) in
      let none = by_tag.small in
      let isnt : is_past 64 entry.target ≡ false =
      let below : nat_lt entry.target.tag 64 ≡ true = lt-ltb _ _ small in rw below refl in
      let also = fails (is_past 64) isnt in
      omega (arith, more, none, also);
}
  where
    at_most_one : (test : Target → Bool) → count_at test (entry ∷ []) ≤ 1
    at_most_one test =
        ⊎_elim
        (λ passes. let one = count_by-yes (λ (e : Waiting). test e.target) entry [] passes in omega (arith, one))
        (λ not_so. let none = count_by-no (λ (e : Waiting). test e.target) entry [] not_so in omega (arith, none))
        (cases_Bool (test entry.target))

    fails : (test : Target → Bool) → test entry.target ≡ false → count_at test (entry ∷ []) ≡ 0
    fails test isnt = count_by-no (λ (e : Waiting). test e.target) entry [] isnt

-- The entry that was found first and taken out is the first of its line.
pub taken_at : (line : ℕ) (entries : List Waiting) (place : ℕ) (entry d : Waiting) (new : List Waiting) →
    list_any (waits_for line) entries ≡ true →
    position (waits_for line) entries ≡ Some place → entry ≡ get_or entries place d → new ≡ remove entries place →
    TakesEntries entries line (entry.target ∷ []) new
taken_at line entries place entry d new there found read removed =
    let at = place_is (waits_for line) entries place found in
    let out : new ≡ remove_key (waits_for line) entries =
    removed ∙ ap (remove entries) at ∙ first_taken (waits_for line) entries there in
    let first : entry ≡ get_or entries (position_or_len (waits_for line) entries) d =
    read ∙ ap (λ i. get_or entries i d) at in
    rw (ap (λ e. e.target) first) (rw out (takes_first line entries d there))

-- Where not all of a line were taken yet, one is there.
pub one_left : (line : ℕ) (old new : List Waiting) (taken : List Target) → TakesEntries old line taken new →
    length taken < length (at_line line old) → list_any (waits_for line) new ≡ true
one_left line old new taken takes fewer =
    let whole = ap length takes.here ∙ length-append taken (at_line line new) in
    sym (waited-at new line) ∙ some (at_line line new) (omega (arith, whole, fewer))
  where
    some : (targets : List Target) → 0 < length targets → is_waited targets ≡ true
    some [] more = absurd (omega arith)
    some (target ∷ targets) more = refl

-- How many lines the entries are for, from the last one on.
pub no_lines : (entries : List Waiting) → length entries ≡ 0 → 0 ≡ length (by_line entries)
unfolding by_line
no_lines [] none = refl
no_lines (entry ∷ entries) none = absurd (omega (arith, none))

-- the same of the entries that a call pushed, or took
pub lines_pushed : (entries : List Waiting) (entry : Waiting) →
    length (by_line (entries ++ entry ∷ [])) + (if has_miss (by_line entries) entry.line.0 then 1 else 0)
    ≡ length (by_line entries) + 1
lines_pushed entries entry =
    let all = length_pushed entries entry in
    let same = one-if _ _ (has_miss_at entries entry.line.0) in
    omega (arith, all, same)

pub lines_taken : (line : ℕ) (old new : List Waiting) (taken : List Target) → TakesEntries old line taken new →
    length (by_line old) ≡ length (by_line new) + (if has_miss (by_line new) line then 0 else 1)
lines_taken line old new taken takes =
    let all = takes.lines in let same = zero-if _ _ (has_miss_at new line) in omega (arith, all, same)

-- The loads at the front of a line are those of its entries.
pub front_loads_at : (line : ℕ) (entries : List Waiting) →
    prefix_len (λ entry. is_load entry.target) (filter (waits_for line) entries)
    ≡ prefix_len is_load (targets_of (by_line entries) line)
front_loads_at line entries =
    mapped (filter (waits_for line) entries) ∙ ap (prefix_len is_load) (sym (waits_at entries line))
  where
    mapped : (entries : List Waiting) → prefix_len (λ entry. is_load entry.target) entries
        ≡ prefix_len is_load (map (λ entry. entry.target) entries)
    mapped [] = refl
    mapped (entry ∷ entries) = ap (λ n. if is_load entry.target then 1 + n else 0) (mapped entries)

-- The number of loads in front is the length of the prefix.
pub front_count : (targets : List Target) → length (front_loads targets) ≡ prefix_len is_load targets
front_count targets =
    let most = prefix_len-le-length is_load targets in
    length-take-le (prefix_len is_load targets) targets most

pub length_at : (line : ℕ) (entries : List Waiting) →
    length (filter (waits_for line) entries) ≡ length (targets_of (by_line entries) line)
length_at line entries =
    sym (length-map (filter (waits_for line) entries) (λ (e : Waiting). e.target))
    ∙ ap length (sym (waits_at entries line))

-- The first `count` were taken.
pub first_of : (line : ℕ) (old new : List Waiting) (taken : List Target) (count : ℕ) → TakesEntries old line taken new →
    length taken ≡ count →
    taken ≡ take count (targets_of (by_line old) line)
first_of line old new taken count takes counted =
    sym (ap (λ targets. take count targets) (waits_at old line ∙ takes.here)
    ∙ ap (λ n. take n (taken ++ at_line line new)) (sym counted) ∙ take-append_seam taken (at_line line new))

pub none_waits : by_line [] ≡ []
unfolding by_line
none_waits = refl

-- No tag occurs twice among the entries that are seen.
pub each_once : (entries seen : List Waiting) → entries ≡ seen → HasEntryByTag entries → HasEachTagOnce (by_line seen)
each_once entries seen same by_tag tag =
    let counted = ap (count_at (has_tag tag)) same in
    let all = counts_at (has_tag tag) seen in
    let few = by_tag.once tag in
    omega (arith, counted, all, few)
