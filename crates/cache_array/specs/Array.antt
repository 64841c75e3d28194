-- A private cache's array: its sets, seen as lists of slots, and above them the values that it holds by line.
use Rattle.std.specs.Prelude.{◌≡◌, ◌≢◌, ℕ, ◌%◌, ◌<◌, ◌≤◌, List, length, replicate, slice_set, slice_index_or, Option}
use Rattle.std.specs.Prelude.{All, AllPairs, EachIndex}
use Rattle.std.specs.Int.{IsPowerOfTwo}
use Rattle.address_map.specs.declared.address.Local.{Local}
use Rattle.cache_array.specs.declared.set.Slot.{Slot}
use Rattle.cache_array.specs.Set.{SetView, empty_set, lines_of, value_in}

-- the sets, and the policy
pub record ArrayView (V P : Type 0) : Type 0 where
  pub sets : List (SetView V)
  pub policy : P

-- a line's set: lines are dealt out to the sets in turn
abbrev pub set_index : {V P : Type 0} → ArrayView V P → Local → ℕ
set_index array line = line.0 % length array.sets

-- the line's set
abbrev pub set_of : {V P : Type 0} → ArrayView V P → Local → SetView V
set_of array line = slice_index_or array.sets (set_index array line) (empty_set 0)

-- the slots of the line's set
abbrev pub slots_at : {V P : Type 0} → ArrayView V P → Local → List (Slot V)
slots_at array line = (set_of array line).slots

-- the array with other slots in the line's set
abbrev pub with_slots : {V P : Type 0} → ArrayView V P → Local → List (Slot V) → ArrayView V P
with_slots array line slots =
    record array { sets = slice_set array.sets (set_index array line) (record (set_of array line) { slots = slots }) }

-- the lines of the line's set, in the order of their slots
abbrev pub lines_at : {V P : Type 0} → ArrayView V P → Local → List Local
lines_at array line = lines_of (slots_at array line)

-- the value that the array holds for the line
abbrev pub held_at : {V P : Type 0} → ArrayView V P → Local → Option V
held_at array line = value_in (slots_at array line) line

-- the line's set has room for one more line
abbrev pub HasWay : {V P : Type 0} → ArrayView V P → Local → Type 0
HasWay array line = length (slots_at array line) < (set_of array line).ways

-- an array of this many sets of this many ways, in which no line is
abbrev pub empty_array : {V P : Type 0} → ℕ → ℕ → P → ArrayView V P
empty_array sets ways policy = record { sets = replicate sets (empty_set ways); policy = policy }

-- what holds of each of `sets` sets: its lines are its own, none occurs twice, and there are no more than its ways
pub record IsSet {V : Type 0} (sets index : ℕ) (set : SetView V) : Type 0 where
  pub its_own : All (λ line. line.0 % sets ≡ index) (lines_of set.slots)
  pub distinct : AllPairs (λ line later. line.0 ≢ later.0) (lines_of set.slots)
  pub few : length set.slots ≤ set.ways

-- what holds of every array
pub record IsArray {V P : Type 0} (array : ArrayView V P) : Type 0 where
  pub power : IsPowerOfTwo (length array.sets)
  pub each : EachIndex array.sets
      (λ index. IsSet (length array.sets) index (slice_index_or array.sets index (empty_set 0)))

-- the line has this value now, or none, and each other line what it had
pub record SetsOnly {V P : Type 0} (old new : ArrayView V P) (line : Local) (value : Option V) : Type 0 where
  pub there : held_at new line ≡ value
  pub others : (other : Local) → other.0 ≢ line.0 → held_at new other ≡ held_at old other
