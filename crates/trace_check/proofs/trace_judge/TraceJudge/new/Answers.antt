use Rattle.std.proofs.Common.{refl, arith}
use Rattle.trace_check.specs.SoFar.{IsSoFar}
use Rattle.trace_check.proofs.trace_judge.TraceJudge.new.Goals as goal

pub returns : goal.returns
unfolding IsSoFar
returns c = record {
  ascending = λ i j d before within. absurd (omega arith);
  last = refl;
  count = refl;
  so_far = c.new.ensures;
}
