-- A table of entries by their tags: what its slots say of the entries, and both after an entry was put in or taken out.
use Rattle.std.proofs.Common.{◌≡◌, ℕ, zero, suc, nat_lt, ◌<◌, ◌≤◌, ◌==◌, Bool, true, false, not, if◌then◌else◌, List}
use Rattle.std.proofs.Common.{[], ◌∷◌, ◌++◌, length, filter, map, get_or, set, replicate, Option, Some, None, refl, sym}
use Rattle.std.proofs.Common.{ap, ⊎_elim, arith, ◌∙◌}
use Rattle.std.specs.Prelude.{IsSome, is_some, unwrap_or}
use Rattle.std.specs.Option.{option_or}
use Rattle.std.specs.List.{find, list_any, position, prefix_len, remove}
use Rattle.std.proofs.lemmas.Bool.{cases_Bool, cases_eq, eq-eqb, ne_eqb, eqb-true, le-ltb, ltb-true}
use Rattle.std.proofs.lemmas.List.{get_or-map, get_or-set_same, get_or-set_other, length-map, length-set, map-append}
use Rattle.std.proofs.lemmas.List.Folds.{find-append, list_any_at}
use Rattle.std.proofs.lemmas.List.Quantifiers.{position-Some}
use Rattle.std.proofs.lemmas.List.Sums.{sum_by-remove, get_or-le-sum_by}
use Rattle.target_list.specs.Target.{is_load}
use Rattle.mshr_file.specs.declared.entry_table.EntryTable.{EntryTable}
use Rattle.mshr_file.specs.declared.entry_table.Slot.{Slot}
use Rattle.mshr_file.specs.declared.waiting.Waiting.{Waiting}
use Rattle.mshr_file.specs.Miss.{has_tag, is_free}
use Rattle.mshr_file.specs.Waiting.{by_line, count_at, waits_for, is_past, slot_of, slot_for, entry_at, no_waiting}
use Rattle.mshr_file.specs.Waiting.{waiting_in, IsEntryTable, TakesEntries}
use Rattle.mshr_file.proofs.Entries.{length_by_line, no_lines, tags_pushed, tags_after, taken_at}
use Rattle.mshr_file.proofs.Lists.{position_found, count_by-fewer, found_or_not, any-map, filter-map, kept-map}
use Rattle.mshr_file.proofs.Lists.{position-map, prefix-map, find_none, find-remove, map-remove, none_counted, one-if}
use Rattle.mshr_file.proofs.Tags.{fits, free_is, room_for}

-- the entry has the tag
abbrev named : ℕ → Waiting → Bool
named tag entry = has_tag tag entry.target

abbrev slot_named : ℕ → Slot → Bool
slot_named tag slot = slot.tag == tag

-- What a search of the slots says of the entries.
pub any_slot : (table : EntryTable) (line : ℕ) → IsEntryTable table →
    list_any (slot_for line) table.order.items ≡ list_any (waits_for line) (waiting_in table)
any_slot table line kept =
    ap (list_any (slot_for line)) kept.slots
    ∙ any-map slot_of (slot_for line) (waits_for line) (λ entry. refl) (waiting_in table)

pub count_slot : (table : EntryTable) (line : ℕ) → IsEntryTable table →
    length (filter (slot_for line) table.order.items) ≡ length (filter (waits_for line) (waiting_in table))
count_slot table line kept =
    ap (λ slots. length (filter (slot_for line) slots)) kept.slots
    ∙ kept-map slot_of (slot_for line) (waits_for line) (λ entry. refl) (waiting_in table)

pub first_slot : (table : EntryTable) (line : ℕ) → IsEntryTable table →
    position (slot_for line) table.order.items ≡ position (waits_for line) (waiting_in table)
first_slot table line kept =
    ap (position (slot_for line)) kept.slots
    ∙ position-map slot_of (slot_for line) (waits_for line) (λ entry. refl) (waiting_in table)

pub load_slots : (table : EntryTable) (line : ℕ) → IsEntryTable table →
    prefix_len (λ slot. slot.load) (filter (slot_for line) table.order.items)
    ≡ prefix_len (λ entry. is_load entry.target) (filter (waits_for line) (waiting_in table))
load_slots table line kept =
    ap (λ slots. prefix_len (λ slot. slot.load) (filter (slot_for line) slots)) kept.slots
    ∙ ap (prefix_len (λ slot. slot.load))
    (filter-map slot_of (slot_for line) (waits_for line) (λ entry. refl) (waiting_in table))
    ∙ prefix-map slot_of (λ slot. slot.load) (λ entry. is_load entry.target) (λ entry. refl)
    (filter (waits_for line) (waiting_in table))

pub as_many : (table : EntryTable) → length (waiting_in table) ≡ length table.order.items
as_many table = length-map table.order.items (entry_at table.entries)

-- What is under a tag that no slot has may change.
elsewhere : (entries : List (Option Waiting)) (slots : List Slot) (tag : ℕ) (held : Option Waiting) →
    list_any (slot_named tag) slots ≡ false →
    map (entry_at (set entries tag held)) slots ≡ map (entry_at entries) slots
elsewhere entries [] tag held none = refl
elsewhere entries (slot ∷ slots) tag held none =
    ⊎_elim
    (λ same. let here : (slot.tag == tag) ≡ true = eq-eqb slot.tag tag same in let clash : true ≡ false =
    rw here at none in absurd cc)
    (λ differs.
    let not_here : (slot.tag == tag) ≡ false = ne_eqb slot.tag tag differs in
    let first = ap (λ option. unwrap_or option no_waiting) (get_or-set_other entries tag slot.tag held None differs) in
    let rest = elsewhere entries slots tag held (rw not_here at none) in
    ap (λ entry. entry ∷ map (entry_at (set entries tag held)) slots) first
    ∙ ap (λ more. entry_at entries slot ∷ more) rest)
    (cases_eq slot.tag tag)

-- No tag of the slots is one that no entry has.
unnamed : (slots : List Slot) (entries : List Waiting) (tag : ℕ) → slots ≡ map slot_of entries →
    list_any (named tag) entries ≡ false →
    list_any (slot_named tag) slots ≡ false
unnamed slots entries tag are none = ap (list_any (slot_named tag)) are
    ∙ any-map slot_of (slot_named tag) (named tag) (λ entry. refl) entries ∙ none

-- The table after an entry was put under a free tag, and its slot after the others.
pub put_in : (table after : EntryTable) (entry : Waiting) → IsEntryTable table → entry.target.tag < 64 →
    count_at (has_tag entry.target.tag) (waiting_in table) ≡ 0 →
    after.entries ≡ set table.entries entry.target.tag (Some entry) →
    after.order.items ≡ table.order.items ++ slot_of entry ∷ [] →
    IsEntryTable after × (waiting_in after ≡ waiting_in table ++ entry ∷ [])
put_in table after entry kept small free entries order = (
  record {
    size = ap length entries ∙ length-set table.entries entry.target.tag (Some entry) ∙ kept.size;
    slots =
        order
        ∙ ap (λ slots. slots ++ slot_of entry ∷ []) kept.slots
        ∙ sym (map-append slot_of (waiting_in table) (entry ∷ []))
        ∙ ap (map slot_of) (sym seen);
    by_tag = rw seen (tags_pushed (waiting_in table) entry kept.by_tag small free);
    held = held;
  },
  seen,
)
  where
    tag : ℕ
    tag = entry.target.tag

    none : list_any (named entry.target.tag) (waiting_in table) ≡ false
    none = none_counted (named entry.target.tag) (waiting_in table) free

    own : entry_at (set table.entries entry.target.tag (Some entry)) (slot_of entry) ≡ entry
    own =
        let inside : entry.target.tag < length table.entries = let size = kept.size in omega (arith, size, small) in
        ap (λ option. unwrap_or option no_waiting)
        (get_or-set_same table.entries entry.target.tag (Some entry) None inside)

    seen : waiting_in after ≡ waiting_in table ++ entry ∷ []
    seen =
        ap (λ slots. map (entry_at after.entries) slots) order
        ∙ ap (λ all. map (entry_at all) (table.order.items ++ slot_of entry ∷ [])) entries
        ∙ map-append (entry_at (set table.entries entry.target.tag (Some entry))) table.order.items (slot_of entry ∷ [])
        ∙ ap
        (λ front. front ++ entry_at (set table.entries entry.target.tag (Some entry)) (slot_of entry) ∷ [])
        (elsewhere table.entries table.order.items entry.target.tag (Some entry)
        (unnamed table.order.items (waiting_in table) entry.target.tag kept.slots none))
        ∙ ap (λ last. waiting_in table ++ last ∷ []) own

    held : (t : ℕ) → t < 64 → get_or after.entries t None ≡ find (named t) (waiting_in after)
    held t below =
        ap (λ all. get_or all t None) entries
        ∙ ⊎_elim
        (λ same.
        let inside : entry.target.tag < length table.entries = let size = kept.size in omega (arith, size, small) in
        let is : (entry.target.tag == entry.target.tag) ≡ true = eq-eqb entry.target.tag entry.target.tag refl in
        let last : find (named entry.target.tag) (entry ∷ []) ≡ Some entry = rw is refl in
        rw same
        (get_or-set_same table.entries entry.target.tag (Some entry) None inside
        ∙ sym
        (find-append (named entry.target.tag) (waiting_in table) (entry ∷ [])
        ∙ ap (λ first. option_or first (find (named entry.target.tag) (entry ∷ [])))
        (find_none (named entry.target.tag) (waiting_in table) none)
        ∙ last)))
        (λ differs.
        let isnt : (entry.target.tag == t) ≡ false = ne_eqb entry.target.tag t (λ same. differs (sym same)) in
        let last : find (named t) (entry ∷ []) ≡ None = rw isnt refl in
        get_or-set_other table.entries entry.target.tag t (Some entry) None differs
        ∙ kept.held t below
        ∙ sym
        (find-append (named t) (waiting_in table) (entry ∷ [])
        ∙ ap (λ second. option_or (find (named t) (waiting_in table)) second) last
        ∙ or_none (find (named t) (waiting_in table))))
        (cases_eq t entry.target.tag)
        ∙ ap (find (named t)) (sym seen)
      where
        or_none : (option : Option Waiting) → option_or option None ≡ option
        or_none None = refl
        or_none (Some entry) = refl

-- The table after the entry of a slot was taken out, with its slot.
pub taken_out : (table after : EntryTable) (line place : ℕ) (slot : Slot) (entry : Waiting) → IsEntryTable table →
    list_any (waits_for line) (waiting_in table) ≡ true → position (slot_for line) table.order.items ≡ Some place →
    slot ≡ get_or table.order.items place slot → entry ≡ entry_at table.entries slot →
    after.entries ≡ set table.entries slot.tag None → after.order.items ≡ remove table.order.items place →
    IsEntryTable after × TakesEntries (waiting_in table) line (entry.target ∷ []) (waiting_in after)
taken_out table after line place slot entry kept there found at_place is entries order = (
  record {
    size = ap length entries ∙ length-set table.entries slot.tag None ∙ kept.size;
    slots = order ∙ left ∙ ap (map slot_of) (sym seen);
    by_tag = tags_after line (waiting_in table) (waiting_in after) (entry.target ∷ []) kept.by_tag takes;
    held = held;
  },
  takes,
)
  where
    inside : place < length table.order.items
    inside = (position-Some (slot_for line) table.order.items place slot found).0

    within : place < length (waiting_in table)
    within = let same = as_many table in omega (arith, same, inside)

    first : entry ≡ get_or (waiting_in table) place entry
    first =
        is
        ∙ ap (entry_at table.entries) at_place
        ∙ sym (get_or-map (entry_at table.entries) table.order.items place slot entry inside)

    -- the slot is that of the entry
    tagged : slot ≡ slot_of entry
    tagged =
        at_place
        ∙ ap (λ slots. get_or slots place slot) kept.slots
        ∙ get_or-map slot_of (waiting_in table) place entry slot within
        ∙ ap slot_of (sym first)

    has : named slot.tag (get_or (waiting_in table) place entry) ≡ true
    has = ap (named slot.tag) (sym first) ∙ eq-eqb entry.target.tag slot.tag (ap (λ s. s.tag) (sym tagged))

    left : remove table.order.items place ≡ map slot_of (remove (waiting_in table) place)
    left = ap (λ slots. remove slots place) kept.slots ∙ sym (map-remove slot_of (waiting_in table) place)

    none : list_any (named slot.tag) (remove (waiting_in table) place) ≡ false
    none =
        let total = sum_by-remove (λ e. if named slot.tag e then 1 else 0) (waiting_in table) place entry within in
        let few = kept.by_tag.once slot.tag in
        let one = one-if _ true has in
        none_counted (named slot.tag) (remove (waiting_in table) place) (omega (arith, total, few, one))

    seen : waiting_in after ≡ remove (waiting_in table) place
    seen =
        ap (λ slots. map (entry_at after.entries) slots) order
        ∙ ap (λ all. map (entry_at all) (remove table.order.items place)) entries
        ∙ elsewhere table.entries (remove table.order.items place) slot.tag None
        (unnamed (remove table.order.items place) (remove (waiting_in table) place) slot.tag left none)
        ∙ map-remove (entry_at table.entries) table.order.items place

    takes : TakesEntries (waiting_in table) line (entry.target ∷ []) (waiting_in after)
    takes = taken_at line (waiting_in table) place entry entry (waiting_in after) there
        (sym (first_slot table line kept) ∙ found) first seen

    held : (t : ℕ) → t < 64 → get_or after.entries t None ≡ find (named t) (waiting_in after)
    held t below =
        ap (λ all. get_or all t None) entries
        ∙ ⊎_elim
        (λ same. rw same
        (emptied table.entries slot.tag ∙ sym (find_none (named slot.tag) (remove (waiting_in table) place) none)))
        (λ differs.
        let isnt : named t (get_or (waiting_in table) place entry) ≡ false =
        ap (named t) (sym first)
        ∙ ne_eqb entry.target.tag t (λ same. differs (sym same ∙ sym (ap (λ s. s.tag) tagged))) in
        get_or-set_other table.entries slot.tag t None None differs
        ∙ kept.held t below
        ∙ sym (find-remove (named t) (waiting_in table) place entry within isnt))
        (cases_eq t slot.tag)
        ∙ ap (find (named t)) (sym seen)
      where
        emptied : (entries : List (Option Waiting)) (tag : ℕ) → get_or (set entries tag None) tag None ≡ None
        emptied [] tag = refl
        emptied (first ∷ rest) zero = refl
        emptied (first ∷ rest) (suc tag) = emptied rest tag

below_of : (entries : List Waiting) (place : ℕ) → count_at (is_past 64) entries ≡ 0 → place < length entries →
    (get_or entries place no_waiting).target.tag < 64
below_of entries place none inside =
    ⊎_elim
    (λ past.
    let least = get_or-le-sum_by
    (λ (e : Waiting). if is_past 64 e.target then 1 else 0) entries place no_waiting inside in
    let one = one-if _ true past in
    absurd (omega (arith, least, one, none)))
    (λ below. ltb-true _ _ (by_not _ below))
    (cases_Bool (is_past 64 (get_or entries place no_waiting).target))
  where
    by_not : (b : Bool) → not b ≡ false → b ≡ true
    by_not true e = refl
    by_not false e = absurd cc

-- A slot that is found has an entry under its tag.
pub slot_held : (table : EntryTable) (line place : ℕ) (slot : Slot) → IsEntryTable table →
    position (slot_for line) table.order.items ≡ Some place → slot ≡ get_or table.order.items place slot →
    (slot.tag < 64) × ((held : Option Waiting) → held ≡ get_or table.entries slot.tag None → is_some held ≡ true)
slot_held table line place slot kept found at_place =
    (small, λ held read. ap is_some (read ∙ kept.held slot.tag small) ∙ some)
  where
    inside : place < length table.order.items
    inside = (position-Some (slot_for line) table.order.items place slot found).0

    within : place < length (waiting_in table)
    within = let same = as_many table in omega (arith, same, inside)

    tagged : slot.tag ≡ (get_or (waiting_in table) place no_waiting).target.tag
    tagged =
        ap (λ s. s.tag)
        (at_place ∙ ap (λ slots. get_or slots place slot) kept.slots
        ∙ get_or-map slot_of (waiting_in table) place no_waiting slot within)

    small : slot.tag < 64
    small = let below = below_of (waiting_in table) place kept.by_tag.small within in omega (arith, below, tagged)

    some : is_some (find (named slot.tag) (waiting_in table)) ≡ true
    some =
        found_or_not (named slot.tag) (waiting_in table)
        ∙ list_any_at (named slot.tag) (waiting_in table) place no_waiting within (eq-eqb _ _ (sym tagged))

-- No entry has a tag past the last.
pub past_last : (table : EntryTable) (tag : ℕ) → IsEntryTable table → 64 ≤ tag →
    find (named tag) (waiting_in table) ≡ None
past_last table tag kept past =
    find_none (named tag) (waiting_in table) (none_counted (named tag) (waiting_in table) nobody)
  where
    nobody : count_at (has_tag tag) (waiting_in table) ≡ 0
    nobody =
        let fewer = count_by-fewer (λ (e : Waiting). has_tag tag e.target) (λ e. is_past 64 e.target)
        (λ e is. reaches e (eqb-true _ _ is)) (waiting_in table) in
        let none = kept.by_tag.small in
        omega (arith, fewer, none)
      where
        reaches : (e : Waiting) → e.target.tag ≡ tag → is_past 64 e.target ≡ true
        reaches e is = let not_below : nat_lt e.target.tag 64 ≡ false = le-ltb _ _ (omega (arith, is, past)) in
            rw not_below refl

-- A tag is free where nothing is held under it.
pub free_under : (table : EntryTable) (tag : ℕ) (nothing : Bool) → IsEntryTable table → tag < 64 →
    is_some (get_or table.entries tag None) ≡ not nothing → nothing ≡ is_free (by_line (waiting_in table)) tag
free_under table tag nothing kept small is =
    turned _ nothing is
    ∙ ap (λ held. not (is_some held)) (kept.held tag small)
    ∙ ap not (found_or_not (named tag) (waiting_in table))
    ∙ free_is tag (waiting_in table)
  where
    turned : (a b : Bool) → a ≡ not b → b ≡ not a
    turned a true is = rw is refl
    turned a false is = rw is refl

-- A table with nothing in it.
pub empty_kept : (table : EntryTable) → table.order.items ≡ [] → table.entries ≡ replicate 64 None →
    IsEntryTable table × (waiting_in table ≡ [])
empty_kept table order entries = (
  record {
    size = ap length entries;
    slots = order ∙ ap (map slot_of) (sym none);
    by_tag = rw none (record { once = λ tag. omega arith; small = refl });
    held = λ tag small. ap (λ all. get_or all tag None) entries ∙ nothing 64 tag ∙ ap (find (named tag)) (sym none);
  },
  none,
)
  where
    none : waiting_in table ≡ []
    none = ap (map (entry_at table.entries)) order

    nothing : (count tag : ℕ) → ◌≡◌ {A = Option Waiting} (get_or (replicate count None) tag None) None
    nothing zero tag = refl
    nothing (suc count) zero = refl
    nothing (suc count) (suc tag) = nothing count tag

-- The first entry for a line has its slot among the others.
pub slot_found : (table : EntryTable) (line : ℕ) → IsEntryTable table →
    list_any (waits_for line) (waiting_in table) ≡ true →
    IsSome (position (slot_for line) table.order.items)
slot_found table line kept there = position_found (slot_for line) table.order.items (any_slot table line kept ∙ there)

-- There is room for the slot of an entry with a free tag.
pub slot_room : (table : EntryTable) (entry : Waiting) → IsEntryTable table → entry.target.tag < 64 →
    count_at (has_tag entry.target.tag) (waiting_in table) ≡ 0 → length table.order.items < 64
slot_room table entry kept small free =
    let few = room_for (waiting_in table) entry kept.by_tag small free in
    let same = as_many table in
    omega (arith, few, same)

-- No more lines are waited for than there are entries, at most 64.
pub few_lines : (table : EntryTable) → IsEntryTable table → length (by_line (waiting_in table)) ≤ 64
few_lines table kept =
    let few = fits 64 (waiting_in table) kept.by_tag.once kept.by_tag.small in
    let lines = lines_within (waiting_in table) in
    omega (arith, few, lines)
  where
    lines_within : (entries : List Waiting) → length (by_line entries) ≤ length entries
    lines_within [] = let none = no_lines [] refl in omega (arith, none)
    lines_within (entry ∷ entries) =
        let later = lines_within entries in
        let all = length_by_line entry entries in
        omega (arith, later, all)
