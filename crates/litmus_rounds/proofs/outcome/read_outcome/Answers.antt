use Rattle.std.proofs.Common.{subst, sym}
use Rattle.litmus_rounds.specs.Outcome.{HasReply, Match}
use Rattle.litmus_rounds.proofs.outcome.read_outcome.Goals as goal

pub returns-then-not-branch-clause-none : goal.returns-then-not-branch-clause-none
returns-then-not-branch-clause-none c = λ is values outcome.
    c.in_ok-read_replies.ensures.none c.if-not-branch.true outcome.replies
    (subst (λ named_request. Match (HasReply c.args.recorded.now.slices) named_request outcome.replies)
    (sym c.requires.named_requests)
    outcome.named)
