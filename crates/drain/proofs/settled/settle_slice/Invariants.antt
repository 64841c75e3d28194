use Rattle.drain.proofs.SettledSlice.{AreSet}
use Rattle.drain.proofs.settled.settle_slice.Given as goal

abbrev pub invariant-loop-place : goal.invariant-loop-place
invariant-loop-place g l =
    AreSet g.M.SystemNames.setup l.initial.cores l.slice.0 l.initial.counters l.counters l.next l.place
