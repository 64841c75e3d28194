use Rattle.litmus_threads.proofs.Ends.{table-more}
use Rattle.litmus_threads.proofs.rounds.run_test.Goals as goal

pub loop-round-preserved : goal.loop-round-preserved
loop-round-preserved g c =
    table-more c.args.test.now c.loop-round.round _ _ c.in-Some.values.items c.deref.result.now
    c.in_ok-plan.plan.named_requests.items c.deref.ensures.value c.in_ok-plan.ensures.named_requests
    c.loop-round.invariant
    (rw c.in-Some.is at c.in_ok-values.ensures) c.in_ok-add-in-Some.ensures.ok
