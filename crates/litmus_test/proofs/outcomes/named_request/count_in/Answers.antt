use Rattle.std.proofs.Common.{arith}
use Rattle.litmus_test.proofs.NamedRequestLemmas.{count_fits, count_more}
use Rattle.litmus_test.proofs.outcomes.named_request.count_in.Goals as goal
use Rattle.litmus_test.proofs.outcomes.named_request.count_in.Goals.{then-is_in, else-is_in}

pub overflow_add-count : goal.overflow_add-count
overflow_add-count c =
    omega (arith, count_fits c.args.config.now c.args.slice.0 c.args.steps.now c.loop-step.step-index)

pub loop-step-preserved : goal.loop-step-preserved
loop-step-preserved c =
    let more = count_more c.args.config.now c.args.slice.0 c.args.steps.now c.loop-step.step-index _
    c.loop-step-test.true c.is_in.result c.is_in.ensures in
    elim c.if-is_in.branch [
      | then-is_in w ↦ omega (arith, rw w.if-is_in.true at more)
      | else-is_in w ↦ omega (arith, rw w.if-is_in.false at more)
    ]
