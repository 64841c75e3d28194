use Rattle.litmus.specs.Coverage.{AreCountsOfRounds}
use Rattle.mshr_file.specs.Miss.{bound_of}
use Rattle.litmus.proofs.coverage.count_rounds.Given as goal

abbrev pub invariant-loop-round : goal.invariant-loop-round
invariant-loop-round g l =
    AreCountsOfRounds l.test (bound_of l.test.misses l.test.config) l.seed l.most l.round l.status l.coverage
