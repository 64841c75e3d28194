-- The slots of one set, and what each call makes of them.
use Rattle.std.specs.Prelude.{ℕ, Bool, if◌then◌else◌, List, [], ◌∷◌, ◌++◌, map, find, slice_set, Option, option_map}
use Rattle.std.specs.List.{position_or_len}
use Rattle.std.specs.Set.{remove_key}
use Rattle.address_map.specs.declared.address.Local.{Local}
use Rattle.cache_array.specs.declared.set.Slot.{Slot}
use Rattle.cache_array.specs.History.{is_line, moved_to_end}

-- a set: its slots, in the order in which the policy counts them, and how many it has room for
pub record SetView (V : Type 0) : Type 0 where
  pub slots : List (Slot V)
  pub ways : ℕ

-- a set with no line
abbrev pub empty_set : {V : Type 0} → ℕ → SetView V
empty_set ways = record { slots = []; ways = ways }

-- whether a slot holds the line
abbrev pub holds : {V : Type 0} → Local → Slot V → Bool
holds line slot = is_line line slot.line

-- the lines of the set, in the order of their slots
abbrev pub lines_of : {V : Type 0} → List (Slot V) → List Local
lines_of slots = map (λ slot. slot.line) slots

-- the value of a line, if the set holds it
abbrev pub value_in : {V : Type 0} → List (Slot V) → Local → Option V
value_in slots line = option_map (λ slot. slot.value) (find (holds line) slots)

-- the line comes in last
abbrev pub after_insert : {V : Type 0} → List (Slot V) → Local → V → List (Slot V)
after_insert slots line value = slots ++ record { line = line; value = value } ∷ []

-- the line's value is another, in the same slot
abbrev pub after_write : {V : Type 0} → List (Slot V) → Local → V → List (Slot V)
after_write slots line value =
    slice_set slots (position_or_len (holds line) slots) (record { line = line; value = value })

-- the line's slot goes to the end, under a policy where uses move slots
abbrev pub after_use : {V : Type 0} → Bool → List (Slot V) → Local → List (Slot V)
after_use moves slots line = if moves then moved_to_end (holds line) slots else slots

-- the line's slot is gone, and those after it close up
abbrev pub after_remove : {V : Type 0} → List (Slot V) → Local → List (Slot V)
after_remove slots line = remove_key (holds line) slots
