use Rattle.litmus_threads.specs.Round.{IsTableFor}
use Rattle.litmus_threads.proofs.rounds.run_test.Given as goal

abbrev pub invariant-loop-round : goal.invariant-loop-round
invariant-loop-round g l = IsTableFor l.test l.round l.outcomes
