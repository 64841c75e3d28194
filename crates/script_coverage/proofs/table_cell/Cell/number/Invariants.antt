use Rattle.std.proofs.Common.{◌≡◌, ℕ, ◌<◌, Some}
use Rattle.std.specs.Prelude.{slice_get}
use Rattle.script_coverage.specs.declared.cells.TheConstants.{CELLS}
use Rattle.script_coverage.proofs.table_cell.Cell.number.Given as goal

abbrev pub invariant-loop-number : goal.invariant-loop-number
invariant-loop-number l = (k : ℕ) → k < l.number → ¬ (slice_get CELLS k ≡ Some l.self)
