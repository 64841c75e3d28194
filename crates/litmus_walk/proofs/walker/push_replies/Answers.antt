use Rattle.litmus_walk.specs.Moves.{reply_to}
use Rattle.litmus_walk.proofs.ListLemmas.{found-more, lacking-more}
use Rattle.litmus_walk.proofs.walker.push_replies.Goals as goal

pub loop-entry-preserved-in_default : goal.loop-entry-preserved-in_default
loop-entry-preserved-in_default c =
    lacking-more (reply_to c.args.threads.now) _ _ c.args.performed.now c.loop-entry.entry-index _
    c.loop-entry-test.true c.loop-entry.invariant c.in_default.ensures

pub loop-entry-preserved : goal.loop-entry-preserved
loop-entry-preserved c =
    found-more (reply_to c.args.threads.now) _ _ _ c.args.performed.now c.loop-entry.entry-index _ c.in-Some.reply
    c.loop-entry-test.true c.loop-entry.invariant c.in-Some.ensures c.in_ok-push.ensures.items
