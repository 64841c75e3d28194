-- A text of counts: its first line, and then a line for each cell that is listed, with how often it was met.
use Rattle.std.specs.Prelude.{◌≡◌, ◌⊎◌, ℕ, ◌+◌, ◌<◌, ◌≤◌, ◌^◌, List, [], ◌∷◌, codes, Some, slice_get}
use Rattle.litmus_text.specs.Form.{Part, Writes, key, num}
use Rattle.script_coverage.specs.Counts.{counted, had}
use Rattle.script_coverage.specs.TableCell.{name_of_event, name_of_outcome, name_of_state, table_of}
use Rattle.std.specs.Prelude.{Option}
use Rattle.script_coverage.specs.declared.cells.TheConstants.{CELLS}
use Rattle.script_coverage.specs.declared.read.CoverageFault.{CoverageFault}
use Rattle.script_coverage.specs.declared.read.CoverageFault.TheVariants as faults
use Rattle.script_coverage.specs.declared.read.Unread.{Unread}
use Rattle.script_coverage.specs.declared.table_cell.Cell.{Cell}

-- ---- a line

-- the first line
abbrev pub parts_of_head : List Part
parts_of_head = key (codes "lockup-coverage") ∷ key (codes "1") ∷ []

-- the words that name a cell
abbrev pub names_of : Cell → List (List ℕ)
names_of cell =
    table_of cell.state ∷ name_of_state cell.state ∷ name_of_event cell.event ∷ name_of_outcome cell.outcome ∷ []

-- how often it was met
abbrev pub parts_of_count : Cell → ℕ → List Part
parts_of_count cell times =
    key (table_of cell.state) ∷ key (name_of_state cell.state) ∷ key (name_of_event cell.event)
    ∷ key (name_of_outcome cell.outcome) ∷ num times ∷ []

-- the cell with this number has these names
pub record IsCell (names : List (List ℕ)) (number : ℕ) : Type 0 where
  pub cell : Cell
  pub is : slice_get CELLS number ≡ Some cell
  pub named : names ≡ names_of cell

-- the words say that the cell with this number was met so often
pub record IsCount (words : List (List ℕ)) (number times : ℕ) : Type 0 where
  pub cell : Cell
  pub is : slice_get CELLS number ≡ Some cell
  pub written : Writes words (parts_of_count cell times)

-- .. of no cell, whatever the times
abbrev pub IsNoCount : List (List ℕ) → Type 0
IsNoCount words = (number times : ℕ) → ¬ IsCount words number times

-- A line is read: the count in it is added. The first line may come again, where texts are put together.
abbrev pub AddsLine : List (List ℕ) → List (Option ℕ) → List (Option ℕ) → Type 0
AddsLine words old new =
    (Writes words parts_of_head × (new ≡ old))
    ⊎ ((cell : ℕ) × (times : ℕ) × IsCount words cell times × (had old cell + times < 2 ^ 64)
    × (new ≡ counted old cell times))

-- .. or is at fault: it has no count, or one that is too much
abbrev pub IsFaultOfLine : List (List ℕ) → List (Option ℕ) → CoverageFault → Type 0
IsFaultOfLine words old faults.NotACoverage = ⊥
IsFaultOfLine words old faults.TooOften =
    (cell : ℕ) × (times : ℕ) × IsCount words cell times × (2 ^ 64 ≤ had old cell + times)
IsFaultOfLine words old fault = IsNoCount words

-- a fault of the words of a line, whatever was counted before
abbrev pub IsOfWords : CoverageFault → Type 0
IsOfWords faults.NotACell = Unit {0}
IsOfWords faults.BadNumber = Unit {0}
IsOfWords fault = ⊥

-- ---- a text

-- the lines are read, one after another
abbrev pub AddsLines : List (ℕ × List (List ℕ)) → List (Option ℕ) → List (Option ℕ) → Type 0
AddsLines [] old new = new ≡ old
AddsLines (line ∷ more) old new = (mid : List (Option ℕ)) × AddsLine line.1 old mid × AddsLines more mid new

-- .. up to one at fault
abbrev pub IsStopped : List (ℕ × List (List ℕ)) → List (Option ℕ) → List (Option ℕ) → Unread → Type 0
IsStopped [] old new unread = ⊥
IsStopped (line ∷ more) old new unread =
    ((unread.number ≡ line.0) × IsFaultOfLine line.1 old unread.fault × (new ≡ old))
    ⊎ ((mid : List (Option ℕ)) × AddsLine line.1 old mid × IsStopped more mid new unread)

abbrev pub IsAdded : List (ℕ × List (List ℕ)) → List (Option ℕ) → List (Option ℕ) → Type 0
IsAdded [] old new = ⊥
IsAdded (first ∷ rest) old new = Writes first.1 parts_of_head × AddsLines rest old new

-- the text isn't one of counts, or one of its lines is at fault
abbrev pub IsRefused : List (ℕ × List (List ℕ)) → List (Option ℕ) → List (Option ℕ) → Unread → Type 0
IsRefused [] old new unread = (unread.number ≡ 1) × (unread.fault ≡ faults.NotACoverage) × (new ≡ old)
IsRefused (first ∷ rest) old new unread =
    ((¬ Writes first.1 parts_of_head) × (unread.number ≡ first.0) × (unread.fault ≡ faults.NotACoverage) × (new ≡ old))
    ⊎ (Writes first.1 parts_of_head × IsStopped rest old new unread)
