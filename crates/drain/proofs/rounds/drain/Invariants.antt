use Rattle.drain.specs.Drained.{HaveMadeNothing}
use Rattle.drain.proofs.rounds.drain.Given as goal

abbrev pub invariant-loop-round : goal.invariant-loop-round
invariant-loop-round g l = HaveMadeNothing g.M.SystemNames.setup l.initial.cores l.cores
