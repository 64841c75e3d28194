use Rattle.std.proofs.Common.{◌≡◌, ◌++◌, drop, map}
use Rattle.script_coverage.specs.Counts.{listed}
use Rattle.script_coverage.specs.declared.cells.TheConstants.{CELLS}
use Rattle.script_coverage.proofs.coverage.Coverage.new.Given as goal

abbrev pub invariant-loop-cell : goal.invariant-loop-cell
invariant-loop-cell l =
    l.counts.items ++ map (listed l.exclusive) (drop l.cell-index l.cell-items) ≡ map (listed l.exclusive) CELLS
