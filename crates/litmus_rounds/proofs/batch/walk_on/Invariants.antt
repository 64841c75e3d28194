use Rattle.std.proofs.Common.{◌-◌, ◌<◌, ◌≤◌}
use Rattle.mshr_file.specs.Miss.{bound_of}
use Rattle.litmus_rounds.specs.Run.{AreRounds}
use Rattle.litmus_rounds.proofs.batch.walk_on.Given as goal

abbrev pub invariant-loop-done : goal.invariant-loop-done
invariant-loop-done g l = record {
  within : l.done ≤ l.rounds;
  some : 0 < l.share;
  rounds : AreRounds l.test (bound_of l.test.misses l.test.config) l.seed l.most l.done l.outcomes;
}

abbrev pub decreases-loop-done : goal.decreases-loop-done
decreases-loop-done g l = l.rounds - l.done
