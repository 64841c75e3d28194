use Rattle.drain.specs.Whole.{AreOnceBelow}
use Rattle.drain.proofs.whole.check_whole.Given as goal

abbrev pub invariant-loop-number : goal.invariant-loop-number
invariant-loop-number g l = AreOnceBelow l.number l.cores
