use Rattle.mshr_file.specs.Miss.{bound_of}
use Rattle.litmus_rounds.specs.Run.{AreRounds}
use Rattle.litmus_rounds.proofs.stretch.walk_rounds.Given as goal

abbrev pub invariant-loop-round : goal.invariant-loop-round
invariant-loop-round l = AreRounds l.test (bound_of l.test.misses l.test.config) l.seed l.most l.round l.outcomes
