use Rattle.litmus_rounds.specs.Outcome.{HasReply}
use Rattle.litmus_rounds.proofs.MatchLemmas.{match_at, match_next, no_reply}
use Rattle.litmus_rounds.proofs.outcome.read_replies.Goals as goal

pub loop-request-init : goal.loop-request-init
loop-request-init c = rw c.requires tt

pub loop-request-preserved : goal.loop-request-preserved
loop-request-preserved c =
    rw c.in_ok-push.ensures.items
    (match_next (HasReply c.args.recorded.now.slices) c.args.named_requests.now c.loop-request.request-index _ _
    c.in-Some.reply
    c.loop-request.invariant c.in-Some.ensures.reply c.loop-request-test.true)

pub returns-in_default-clause-none : goal.returns-in_default-clause-none
returns-in_default-clause-none c = λ is values all.
    let (value, has) = match_at (HasReply c.args.recorded.now.slices) c.args.named_requests.now values
    c.loop-request.request-index _ c.loop-request-test.true all in
    no_reply c.args.recorded.now.slices _ value c.in_default.ensures.none has
