-- A copy that was changed in its slot is the copy that the array holds, and stays where it was.
use Rattle.std.proofs.Common.{◌≡◌, ◌∙◌, ℕ, ◌+◌, suc, Bool, true, false, not, cond, nat_lt, eq-eqb, arith, List, [], ◌∷◌}
use Rattle.std.proofs.Common.{◌%◌, ◌<◌, length, get_or, set, refl, ap, sym, inl, inr, Some, None, position, unwrap_or}
use Rattle.std.specs.List.{position_or_len}
use Rattle.std.proofs.lemmas.Bool.{cases_lt, ltb-true}
use Rattle.std.proofs.lemmas.List.{get_or-set_same, get_or_past, length-set}
use Rattle.address_map.specs.declared.address.Local.{Local}
use Rattle.address_map.specs.declared.config.PolicyKind.{PolicyKind}
use Rattle.cache_array.specs.declared.set.Slot.{Slot}
use Rattle.cache_array.specs.Array.{ArrayView, held_at as array_at, set_index, set_of, slots_at}
use Rattle.cache_array.specs.Set.{SetView, empty_set, holds, after_write, value_in}
use Rattle.slice_core_cache.proofs.Places.{written_there}
use Rattle.slice_core_cache.specs.Copy.{no_copy}
use Rattle.slice_core_cache.specs.CoreCache.{CoreCacheView, array_copy}
use Rattle.slice_core_cache.specs.Steps.{after_change, with_copy}
use Rattle.slice_core_cache.specs.declared.copy.CacheCopy.{CacheCopy}
use Rattle.slice_core_spec.specs.Within.{StandsAt}

-- a line that was found has a set
set_within : (array : ArrayView CacheCopy PolicyKind) (line : Local) (way : ℕ) →
    position (holds line) (slots_at array line) ≡ Some way → set_index array line < length array.sets
set_within array line way found =
    elim (cases_lt (set_index array line) (length array.sets)) [
      | inl within ↦ within
      | inr past ↦
          let none : set_of array line ≡ empty_set 0 =
          get_or_past array.sets (set_index array line) (empty_set 0) past in
          let nowhere : None ≡ Some way =
          ap (λ (s : SetView CacheCopy). position (holds line) s.slots) (sym none) ∙ found in
          cc
    ]

-- the value that is written to the slot that was found is the line's
value_written : (slots : List (Slot CacheCopy)) (line : Local) (copy : CacheCopy) →
    position_or_len (holds line) slots < length slots → value_in (after_write slots line copy) line ≡ Some copy
value_written [] line copy within = absurd (omega arith)
value_written (slot ∷ slots) line copy within =
    by_test (holds line slot) (position_or_len (holds line) slots) refl within (value_written slots line copy)
  where
    by_test : (here : Bool) (at : ℕ) → holds line slot ≡ here → cond (not here) (1 + at) 0 < length (slot ∷ slots) →
        (at < length slots → value_in (set slots at (record { line = line; value = copy })) line ≡ Some copy) →
        value_in (set (slot ∷ slots) (cond (not here) (1 + at) 0) (record { line = line; value = copy })) line
        ≡ Some copy
    by_test true at is there rest = rw (eq-eqb line.0 line.0 refl) refl
    by_test false at is there rest =
        let next : 1 + at ≡ suc at = omega arith in rw (next, is) (rest (omega arith))

-- a search that found a slot did not pass the end
found_within : {X : Type 0} (p : X → Bool) (xs : List X) (place : ℕ) → position p xs ≡ Some place →
    position_or_len p xs < length xs
found_within p xs place found = by_test (nat_lt (position_or_len p xs) (length xs)) refl found
  where
    by_test : (b : Bool) → nat_lt (position_or_len p xs) (length xs) ≡ b →
        cond b (Some (position_or_len p xs)) None ≡ Some place → position_or_len p xs < length xs
    by_test true e f = ltb-true (position_or_len p xs) (length xs) e
    by_test false e f = absurd (cc f)

held_changed : (array : ArrayView CacheCopy PolicyKind) (line : Local) (way : ℕ) (copy : CacheCopy) →
    position (holds line) (slots_at array line) ≡ Some way → array_at (with_copy array line copy) line ≡ Some copy
held_changed array line way copy found =
    let left : SetView CacheCopy = record (set_of array line) { slots = after_write (slots_at array line) line copy } in
    let at = set_index array line in
    let there : set_of (with_copy array line copy) line ≡ left =
    ap (λ n. get_or (set array.sets at left) (line.0 % n) (empty_set 0)) (length-set array.sets at left)
    ∙ get_or-set_same array.sets at left (empty_set 0) (set_within array line way found) in
    ap (λ (s : SetView CacheCopy). value_in s.slots line) there
    ∙ value_written (slots_at array line) line copy (found_within (holds line) (slots_at array line) way found)

pub changed_copy : (cache : CoreCacheView) (local : Local) (way : ℕ) (copy : CacheCopy) → StandsAt cache local way →
    array_copy (after_change cache local copy) local ≡ copy
changed_copy cache local way copy found =
    ap (λ held. unwrap_or held no_copy) (held_changed cache.array local way copy found)

pub changed_stands : (cache : CoreCacheView) (local : Local) (way : ℕ) (copy : CacheCopy) → StandsAt cache local way →
    StandsAt (after_change cache local copy) local way
changed_stands cache local way copy found = written_there cache.array local way copy found
