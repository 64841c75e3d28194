use Rattle.litmus_threads.proofs.Replies.{replies-more}
use Rattle.litmus_threads.proofs.found.outcome_of.Goals as goal

pub loop-named_request-preserved : goal.loop-named_request-preserved
loop-named_request-preserved c =
    replies-more c.args.audit.now.receipts.items c.deref.result.now c.args.named_requests.now
    c.loop-named_request.named_request-index _ _ _ _
    c.loop-named_request-test.true c.deref.ensures.value c.loop-named_request.invariant c.in-Some.ensures
    c.in_ok-push-in-Some.ensures.items
