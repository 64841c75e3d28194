use Rattle.std.proofs.Common.{◌≤◌}
use Rattle.litmus_rounds.proofs.merge.end_of.Given as goal

abbrev pub invariant-loop-gap : goal.invariant-loop-gap
invariant-loop-gap l = l.fn.count ≤ l.end
