-- A run as the numbers of the cells that its steps met, in order.
use Rattle.std.specs.Prelude.{◌≡◌, ℕ, List, [], ◌∷◌, Option, Some, None, slice_get}
use Rattle.std.specs.Io.KnownBytes.{Appends}
use Rattle.litmus_script.specs.Script.{Playing}
use Rattle.script_coverage.specs.Cell.{cell_of, cell_of_delivery}
use Rattle.script_coverage.specs.declared.cells.TheConstants.{CELLS}
use Rattle.script_coverage.specs.declared.table_cell.Cell.{Cell}
use Rattle.script_explained.specs.Step.{PlaysSteps, Writing, WritingNext}

-- the number of the cell that was met, where it has one
abbrev pub IsNumberOf : Option Cell → Option ℕ → Type 0
IsNumberOf None number = number ≡ None
IsNumberOf (Some cell) (Some number) = slice_get CELLS number ≡ Some cell
IsNumberOf (Some cell) None = (number : ℕ) → ¬ (slice_get CELLS number ≡ Some cell)

-- .. is noted
abbrev pub noted : Option ℕ → List ℕ
noted None = []
noted (Some number) = number ∷ []

pub record Notes (cell : Option Cell) (before after : Option (List ℕ)) : Type 0 where
  pub number : Option ℕ
  pub is : IsNumberOf cell number
  pub written : Appends before after (noted number)

-- of each step the cell that it met is noted
abbrev pub NotesStep : Writing
NotesStep config slices line step before after = Notes (cell_of step) before after

abbrev pub NotesNext : WritingNext
NotesNext config slices delivery before after = Notes (cell_of_delivery delivery.told) before after

abbrev pub Notingly : Playing
Notingly = PlaysSteps NotesStep NotesNext
