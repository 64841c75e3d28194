use Rattle.std.proofs.Common.{◌≡◌}
use Rattle.script_coverage.proofs.Sums.{summed_to}
use Rattle.script_coverage.proofs.coverage.Coverage.add_all.Given as goal

abbrev pub invariant-loop-cell : goal.invariant-loop-cell
invariant-loop-cell l = l.self ≡ summed_to l.cell l.fn.self l.counts
