-- Accesses that wait, each with its line, in the order in which they came, and the registers that they would be in.
use Rattle.std.specs.Prelude.{◌≡◌, ◌≢◌, ◌≤◌, ◌<◌, ◌==◌, ℕ, ◌+◌, Bool, not, nat_lt, if◌then◌else◌, List, [], ◌∷◌, ◌++◌}
use Rattle.std.specs.Prelude.{length, filter, find, map, Option, None, unwrap_or, slice_index_or}
use Rattle.std.specs.List.{count_by, list_any}
use Rattle.address_map.specs.declared.address.Local.{Local}
use Rattle.target_list.specs.declared.target.Target.{Target}
use Rattle.target_list.specs.Target.{is_load, no_target}
use Rattle.mshr_file.specs.declared.entry_table.EntryTable.{EntryTable}
use Rattle.mshr_file.specs.declared.entry_table.Slot.{Slot}
use Rattle.mshr_file.specs.declared.registers.Register.{Register}
use Rattle.mshr_file.specs.declared.waiting.Waiting.{Waiting}
use Rattle.mshr_file.specs.Miss.{has_tag}

abbrev pub waits_for : ℕ → Waiting → Bool
waits_for line entry = entry.line.0 == line

-- the targets of the entries for a line
abbrev pub at_line : ℕ → List Waiting → List Target
at_line line entries = map (λ entry. entry.target) (filter (waits_for line) entries)

-- the registers with one more target, the first of its line
unfoldable pub put_first : Waiting → List Register → List Register
put_first entry [] = record { targets = entry.target ∷ []; line = entry.line } ∷ []
put_first entry (register ∷ registers) =
    if register.line.0 == entry.line.0
    then record { targets = entry.target ∷ register.targets; line = register.line } ∷ registers
    else register ∷ put_first entry registers

-- the entries by their lines
unfoldable pub by_line : List Waiting → List Register
by_line [] = []
by_line (entry ∷ entries) = put_first entry (by_line entries)

-- the lines with one more after them, where it isn't among them
abbrev pub with_line : Local → List Local → List Local
with_line line lines = if list_any (λ other. other.0 == line.0) lines then lines else lines ++ line ∷ []

-- the lines of slots, each once, those of the last slots first
unfoldable pub lines_from : List Slot → List Local
lines_from [] = []
lines_from (slot ∷ slots) = with_line slot.line (lines_from slots)

-- how many entries a test of their targets passes
abbrev pub count_at : (Target → Bool) → List Waiting → ℕ
count_at test entries = count_by (λ entry. test entry.target) entries

abbrev pub is_past : ℕ → Target → Bool
is_past tag target = not (nat_lt target.tag tag)

-- There is one entry at most for each of the tags 0 to 63.
pub record HasEntryByTag (entries : List Waiting) : Type 0 where
  pub once : (tag : ℕ) → count_at (has_tag tag) entries ≤ 1
  pub small : count_at (is_past 64) entries ≡ 0

-- The first entries of a line were taken out, and the others are as they were, in the same order.
pub record TakesEntries (old : List Waiting) (line : ℕ) (taken : List Target) (new : List Waiting) : Type 0 where
  pub here : at_line line old ≡ taken ++ at_line line new
  pub others : (other : ℕ) → other ≢ line → at_line other new ≡ at_line other old
  pub counts : (test : Target → Bool) → count_at test old ≡ count_at test new + count_by test taken
  pub lines : length (by_line old) ≡ length (by_line new) + (if list_any (waits_for line) new then 0 else 1)

-- used for an entry that is not there
abbrev pub no_waiting : Waiting
no_waiting = record { target = no_target; line = record { 0 = 0 } }

-- what a search reads of an entry
abbrev pub slot_of : Waiting → Slot
slot_of entry = record { line = entry.line; tag = entry.target.tag; load = is_load entry.target }

abbrev pub slot_for : ℕ → Slot → Bool
slot_for line slot = slot.line.0 == line

-- the entry under the tag of a slot
abbrev pub entry_at : List (Option Waiting) → Slot → Waiting
entry_at entries slot = unwrap_or (slice_index_or entries slot.tag None) no_waiting

-- the entries that are in use, the oldest first
abbrev pub waiting_in : EntryTable → List Waiting
waiting_in table = map (entry_at table.entries) table.order.items

-- There is a place for each of 64 tags, each slot is that of its entry, and under each tag is the entry that has
-- it.
pub record IsEntryTable (table : EntryTable) : Type 0 where
  pub size : length table.entries ≡ 64
  pub slots : table.order.items ≡ map slot_of (waiting_in table)
  pub by_tag : HasEntryByTag (waiting_in table)
  pub held : (tag : ℕ) → tag < 64 →
      slice_index_or table.entries tag None ≡ find (λ entry. has_tag tag entry.target) (waiting_in table)
