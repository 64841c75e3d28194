-- Which slot of a set a policy evicts. The slots are named by their place in the set's list, and a list of the same
-- length says which of them may go.
use Rattle.std.specs.Prelude.{◌≡◌, ◌≢◌, ℕ, ◌%◌, ◌<◌, Bool, true, false, List, map, filter, length, position, slice_get}
use Rattle.std.specs.Prelude.{Option, Some, All, MatchOption, ⊤}
use Rattle.std.specs.List.{enumerate_from}
use Rattle.address_map.specs.declared.address.Local.{Local}
use Rattle.address_map.specs.declared.config.PolicyKind.{PolicyKind}
use Rattle.address_map.specs.declared.config.PolicyKind.TheVariants.{Lru, Fifo, Random}
use Rattle.cache_array.specs.History.{Event, order_after, events_since_insertion, events_since_use}

-- the slots that may go, in the order of the set
abbrev pub allowed_slots : List Bool → List ℕ
allowed_slots allowed = map (λ slot. slot.0) (filter (λ slot. slot.1) (enumerate_from 0 allowed))

-- the first slot that may go
abbrev pub first_allowed : List Bool → Option ℕ
first_allowed allowed = position (λ may_go. may_go) allowed

-- the slot that a random word picks among those that may go
abbrev pub picked_by : List Bool → ℕ → Option ℕ
picked_by allowed word = slice_get (allowed_slots allowed) (word % length (allowed_slots allowed))

-- whether a use takes a line to the end of its set
abbrev pub moves_of : PolicyKind → Bool
moves_of Lru = true
moves_of Fifo = false
moves_of (Random seed) = false

-- the slot that a policy evicts: the oldest that may go, or the one that the word picks
abbrev pub choice_of : PolicyKind → List Bool → ℕ → Option ℕ
choice_of Lru allowed word = first_allowed allowed
choice_of Fifo allowed word = first_allowed allowed
choice_of (Random seed) allowed word = picked_by allowed word

-- the chosen slot may go, and none is chosen only where no slot may go
abbrev pub IsAllowed : List Bool → Option ℕ → Type 0
IsAllowed allowed chosen =
    MatchOption chosen (All (λ may_go. may_go ≡ false) allowed) (λ slot. slice_get allowed slot ≡ Some true)

-- what is known of the line that a policy evicts and another that it could have evicted, after a history of their
-- set: the one was used longer ago, or came in earlier
abbrev pub prefers_of : PolicyKind → List Event → Local → Local → Type 0
prefers_of Lru history line other = events_since_use history other < events_since_use history line
prefers_of Fifo history line other = events_since_insertion history other < events_since_insertion history line
prefers_of (Random seed) history line other = ⊤

-- whatever history left the lines of a set in their order, the line of the chosen slot is preferred to that of each
-- other slot that may go
abbrev pub IsPreferred : Bool → (List Event → Local → Local → Type 0) → List Bool → ℕ → Type 0
IsPreferred moves prefers allowed chosen =
    (history : List Event) (slot : ℕ) (line other : Local)
    → slice_get (order_after moves history) chosen ≡ Some line
    → slice_get (order_after moves history) slot ≡ Some other
    → slice_get allowed slot ≡ Some true
    → slot ≢ chosen
    → prefers history line other

-- each slot that may go is picked by some word
abbrev pub CanPickEach : List Bool → Type 0
CanPickEach allowed =
    (slot : ℕ) → slice_get allowed slot ≡ Some true
    → (word : ℕ) × (word < length allowed) × (picked_by allowed word ≡ Some slot)
