use Rattle.std.proofs.Common.{◌≡◌, length}
use Rattle.drain.specs.Drained.{HaveMadeNothing}
use Rattle.drain.proofs.rounds.turn_each.Given as goal

abbrev pub invariant-loop-place : goal.invariant-loop-place
invariant-loop-place g l = record {
  long : length l.cores ≡ length l.initial.cores;
  received : HaveMadeNothing g.M.SystemNames.setup l.initial.cores l.cores;
}
