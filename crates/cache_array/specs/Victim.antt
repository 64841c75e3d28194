-- The line that a set evicts, of those that the caller allows to go.
use Rattle.std.specs.Prelude.{◌≡◌, ◌≢◌, ℕ, Bool, true, false, List, map, slice_get, Option, option_map, option_and_then}
use Rattle.std.specs.Prelude.{IfSome, IsSomeAnd}
use Rattle.std.specs.List.{list_any}
use Rattle.address_map.specs.declared.address.Local.{Local}
use Rattle.cache_array.specs.declared.set.Slot.{Slot}
use Rattle.cache_array.specs.History.{Event, order_after}
use Rattle.cache_array.specs.Array.{ArrayView, set_index, lines_at, held_at}

-- what a closure returns for a value is this test of it
abbrev pub Answers : {V : Type 0} → (V → Bool → Type 0) → (V → Bool) → Type 0
Answers {V} says test = (value : V) (answer : Bool) → says value answer → answer ≡ test value

-- for each slot, whether its value may go
abbrev pub flags_of : {V : Type 0} → (V → Bool) → List (Slot V) → List Bool
flags_of test slots = map (λ slot. test slot.value) slots

-- whether the value of some slot may go
abbrev pub some_may_go : {V : Type 0} → (V → Bool) → List (Slot V) → Bool
some_may_go test slots = list_any (λ slot. test slot.value) slots

-- the line in the slot that was chosen, if one was
abbrev pub line_in : {V : Type 0} → List (Slot V) → Option ℕ → Option Local
line_in slots chosen = option_and_then (λ way. option_map (λ slot. slot.line) (slice_get slots way)) chosen

-- two lines have one set
abbrev pub ShareSet : {V P : Type 0} → ArrayView V P → Local → Local → Type 0
ShareSet array line other = set_index array other ≡ set_index array line

-- the array holds the line with a value that may go
abbrev pub MayGo : {V P : Type 0} → (V → Bool) → ArrayView V P → Local → Type 0
MayGo test array line = IsSomeAnd (held_at array line) (λ value. test value ≡ true)

-- no line of the line's set may go
abbrev pub NoneMayGo : {V P : Type 0} → (V → Bool) → ArrayView V P → Local → Type 0
NoneMayGo test array line =
    (other : Local) → ShareSet array line other → IfSome (held_at array other) (λ value. test value ≡ false)

-- the victim is a line of the line's set that may go. Whatever history of the set left its lines in their order, the
-- policy prefers the victim to each other line that may go
pub record IsVictim {V P : Type 0} (test : V → Bool) (moves : Bool) (prefers : List Event → Local → Local → Type 0)
    (array : ArrayView V P) (line victim : Local) : Type 0 where
  pub same_set : ShareSet array line victim
  pub may_go : MayGo test array victim
  pub preferred : (history : List Event) (other : Local)
      → lines_at array line ≡ order_after moves history
      → ShareSet array line other
      → MayGo test array other
      → other.0 ≢ victim.0
      → prefers history victim other
