-- With one entry at most for each of 64 tags, there is room for a tag that has none.
use Rattle.std.proofs.Common.{◌≡◌, ℕ, zero, suc, ◌<◌, ◌≤◌, ◌==◌, Bool, true, false, not, nat_lt, List, [], ◌∷◌, ◌++◌}
use Rattle.std.proofs.Common.{length, filter, refl, sym, ap, ⊎_elim, arith, ◌∙◌}
use Rattle.std.specs.Prelude.{◌&&◌}
use Rattle.std.specs.List.{list_any}
use Rattle.std.proofs.lemmas.Bool.{cases_Bool, le-ltb, ltb-false, eqb-false, eqb-true, ne_eqb}
use Rattle.std.proofs.lemmas.List.{length-append, length-map}
use Rattle.std.proofs.lemmas.List.Sums.{length-filter, count_by-le-length}
use Rattle.std.proofs.lemmas.List.Filters.{length-filter_both}
use Rattle.mshr_file.specs.declared.waiting.Waiting.{Waiting}
use Rattle.mshr_file.specs.Miss.{has_tag, is_free}
use Rattle.mshr_file.specs.Waiting.{at_line, by_line, count_at, is_past, waits_for, HasEntryByTag}
use Rattle.mshr_file.proofs.Lists.{count_by-yes, count_by-no, count_by-filter, count_by-fewer}
use Rattle.mshr_file.proofs.ByLine.{counts_at}
use Rattle.mshr_file.proofs.Entries.{tags_pushed}

-- Entries with tags below n, no two the same, are at most n.
pub fits : (n : ℕ) (entries : List Waiting) → ((tag : ℕ) → count_at (has_tag tag) entries ≤ 1) →
    count_at (is_past n) entries ≡ 0 →
    length entries ≤ n
fits zero [] once none = omega arith
fits zero (entry ∷ entries) once none =
    let past : is_past 0 entry.target ≡ true =
    let not_below : nat_lt entry.target.tag 0 ≡ false = le-ltb _ _ (omega arith) in rw not_below refl in
    absurd (let one = count_by-yes (λ e. is_past 0 e.target) entry entries past in omega (arith, one, none))
fits (suc n) entries once none =
    let here = λ (e : Waiting). has_tag n e.target in
    let elsewhere = λ (e : Waiting). not (has_tag n e.target) in
    let later = fits n (filter elsewhere entries) (fewer n entries once) (below n entries none) in
    let both = length-filter_both here elsewhere (λ e. refl) entries in
    let few = once n in
    let same = length-filter here entries in
    omega (arith, later, both, few, same)
  where
    fewer : (n : ℕ) (entries : List Waiting) → ((tag : ℕ) → count_at (has_tag tag) entries ≤ 1) →
        (tag : ℕ) → count_at (has_tag tag) (filter (λ e. not (has_tag n e.target)) entries) ≤ 1
    fewer n entries once tag =
        let few = once tag in
        let same = count_by-filter (λ (e : Waiting). has_tag tag e.target) (λ e. not (has_tag n e.target)) entries in
        let less =
        count_by-fewer (λ (e : Waiting). not (has_tag n e.target) && has_tag tag e.target) (λ e. has_tag tag e.target)
        (λ e. right (not (has_tag n e.target)) (has_tag tag e.target)) entries in
        omega (arith, few, same, less)
      where
        right : (a b : Bool) → (a && b) ≡ true → b ≡ true
        right true b e = e
        right false b e = absurd cc

    below : (n : ℕ) (entries : List Waiting) → count_at (is_past (suc n)) entries ≡ 0 →
        count_at (is_past n) (filter (λ e. not (has_tag n e.target)) entries) ≡ 0
    below n entries none =
        let same = count_by-filter (λ (e : Waiting). is_past n e.target) (λ e. not (has_tag n e.target)) entries in
        let less =
        count_by-fewer (λ (e : Waiting). not (has_tag n e.target) && is_past n e.target) (λ e. is_past (suc n) e.target)
        (λ e. past n e) entries in
        omega (arith, none, same, less)
      where
        past : (n : ℕ) (e : Waiting) → (not (has_tag n e.target) && is_past n e.target) ≡ true →
            is_past (suc n) e.target ≡ true
        past n e both =
            let apart : has_tag n e.target ≡ false = left_of (has_tag n e.target) (is_past n e.target) both in
            let reaches : nat_lt e.target.tag n ≡ false = right_of (has_tag n e.target) (nat_lt e.target.tag n) both in
            let differs = eqb-false e.target.tag n apart in
            let least : n ≤ e.target.tag = ltb-false e.target.tag n reaches in
            let further : nat_lt e.target.tag (suc n) ≡ false = le-ltb _ _ (omega (arith, differs, least)) in
            rw further refl
          where
            left_of : (a b : Bool) → (not a && b) ≡ true → a ≡ false
            left_of true b e = absurd cc
            left_of false b e = refl

            right_of : (a b : Bool) → (not a && not b) ≡ true → b ≡ false
            right_of true b e = absurd cc
            right_of false true e = absurd cc
            right_of false false e = refl

pub room_for : (entries : List Waiting) (entry : Waiting) → HasEntryByTag entries → entry.target.tag < 64 →
    count_at (has_tag entry.target.tag) entries ≡ 0 → length entries < 64
room_for entries entry by_tag small free =
    let after = tags_pushed entries entry by_tag small free in
    let few = fits 64 (entries ++ entry ∷ []) after.once after.small in
    let longer = length-append entries (entry ∷ []) in
    omega (arith, few, longer)

-- A tag is free where no entry has it.
pub free_is : (tag : ℕ) (entries : List Waiting) →
    not (list_any (λ entry. has_tag tag entry.target) entries) ≡ is_free (by_line entries) tag
free_is tag entries = none-or-some entries ∙ ap (λ n. n == 0) (sym (counts_at (has_tag tag) entries))
  where
    none-or-some : (entries : List Waiting) →
        not (list_any (λ entry. has_tag tag entry.target) entries) ≡ (count_at (has_tag tag) entries == 0)
    none-or-some [] = refl
    none-or-some (entry ∷ entries) =
        ⊎_elim
        (λ named.
        let one = count_by-yes (λ (e : Waiting). has_tag tag e.target) entry entries named in
        let some : (count_at (has_tag tag) (entry ∷ entries) == 0) ≡ false =
        ne_eqb _ _ (λ none. omega (arith, one, none)) in
        let there : list_any (λ e. has_tag tag e.target) (entry ∷ entries) ≡ true = rw named refl in
        ap not there ∙ sym some)
        (λ other.
        let same = count_by-no (λ (e : Waiting). has_tag tag e.target) entry entries other in
        let later : list_any (λ e. has_tag tag e.target) (entry ∷ entries)
        ≡ list_any (λ e. has_tag tag e.target) entries = rw other refl in
        ap not later ∙ none-or-some entries ∙ ap (λ n. n == 0) (sym same))
        (cases_Bool (has_tag tag entry.target))

pub free_at : (tag : ℕ) (entries : List Waiting) → is_free (by_line entries) tag ≡ true →
    count_at (has_tag tag) entries ≡ 0
free_at tag entries free = sym (counts_at (has_tag tag) entries) ∙ eqb-true _ _ free

-- No more targets are for a line than there are entries.
pub few_for : (line : ℕ) (entries : List Waiting) → length (at_line line entries) ≤ length entries
few_for line entries =
    let same = length-map (filter (waits_for line) entries) (λ (e : Waiting). e.target) in
    let filtered = length-filter (waits_for line) entries in
    let fewer = count_by-le-length (waits_for line) entries in
    omega (arith, same, filtered, fewer)

-- A line has no more entries than there are tags.
pub few_at : (line : ℕ) (entries : List Waiting) → HasEntryByTag entries → length (at_line line entries) ≤ 64
few_at line entries by_tag =
    let all = fits 64 entries by_tag.once by_tag.small in
    let fewer = few_for line entries in
    omega (arith, all, fewer)
