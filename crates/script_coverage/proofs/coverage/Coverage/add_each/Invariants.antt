use Rattle.std.proofs.Common.{◌≡◌, drop}
use Rattle.script_coverage.specs.Counts.{counted_all}
use Rattle.script_coverage.proofs.coverage.Coverage.add_each.Given as goal

abbrev pub invariant-loop-cell : goal.invariant-loop-cell
invariant-loop-cell l = counted_all l.self (drop l.cell-index l.cells) ≡ counted_all l.fn.self l.cells
