use Rattle.std.proofs.Common.{◌≡◌, take}
use Rattle.program_run.specs.Tally.{totals_of}
use Rattle.program_run.proofs.tally.total.Given as goal

-- the sums over the lines so far
abbrev pub invariant-loop-counts : goal.invariant-loop-counts
invariant-loop-counts l = l.all ≡ totals_of (take l.counts-index l.lines)
