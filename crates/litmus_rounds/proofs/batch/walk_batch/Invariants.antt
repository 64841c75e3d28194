use Rattle.std.proofs.Common.{◌+◌, ◌*◌}
use Rattle.mshr_file.specs.Miss.{bound_of}
use Rattle.litmus_rounds.specs.Run.{AreRounds}
use Rattle.litmus_rounds.proofs.batch.walk_batch.Given as goal

abbrev pub invariant-loop-place : goal.invariant-loop-place
invariant-loop-place g l =
    AreRounds l.test (bound_of l.test.misses l.test.config) l.seed l.most (l.done + l.place * l.batch.share) l.outcomes
