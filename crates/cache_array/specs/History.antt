-- What happened to the lines of one set, and the order in which that leaves them.
use Rattle.std.specs.Prelude.{ℕ, Bool, false, ◌==◌, if◌then◌else◌, List, [], ◌∷◌, ◌++◌, find, option_to_list}
use Rattle.std.specs.List.{position_or_len}
use Rattle.std.specs.Set.{remove_key}
use Rattle.address_map.specs.declared.address.Local.{Local}

-- a line came into the set, was used there, or left it
pub data Event : Type 0 where
  Inserted : (line : Local) → Event
  Used : (line : Local) → Event
  Removed : (line : Local) → Event

-- whether two lines are the same
abbrev pub is_line : Local → Local → Bool
is_line line other = other.0 == line.0

-- the list with its first element that passes the test moved to the end, and itself where none passes
abbrev pub moved_to_end : {X : Type 0} → (X → Bool) → List X → List X
moved_to_end test xs = remove_key test xs ++ option_to_list (find test xs)

-- the order of the lines after one more event: a line comes in at the end, a use takes it to the end where uses move
-- lines, and the lines after one that leaves close up
abbrev pub after_event : Bool → Event → List Local → List Local
after_event moves (Inserted line) order = remove_key (is_line line) order ++ line ∷ []
after_event moves (Used line) order = if moves then moved_to_end (is_line line) order else order
after_event moves (Removed line) order = remove_key (is_line line) order

-- the order of the lines after a whole history, whose latest event comes first, from an empty set on
abbrev pub order_after : Bool → List Event → List Local
order_after moves [] = []
order_after moves (event ∷ earlier) = after_event moves event (order_after moves earlier)

-- whether the line came in by this event
abbrev pub is_insertion_of : Local → Event → Bool
is_insertion_of line (Inserted other) = is_line other line
is_insertion_of line (Used other) = false
is_insertion_of line (Removed other) = false

-- whether the line came in or was used by this event
abbrev pub is_use_of : Local → Event → Bool
is_use_of line (Inserted other) = is_line other line
is_use_of line (Used other) = is_line other line
is_use_of line (Removed other) = false

-- how many events there were since the line came in
abbrev pub events_since_insertion : List Event → Local → ℕ
events_since_insertion history line = position_or_len (is_insertion_of line) history

-- how many events there were since the line came in or was last used
abbrev pub events_since_use : List Event → Local → ℕ
events_since_use history line = position_or_len (is_use_of line) history
