use Rattle.litmus_walk.specs.declared.moves.Move.TheVariants as moves
use Rattle.litmus_walk.proofs.ListLemmas.{number-more}
use Rattle.litmus_walk.proofs.moves.push_hands.Goals as goal

pub loop-reply-preserved : goal.loop-reply-preserved
loop-reply-preserved c =
    number-more moves.Hand _ _ _ c.loop-reply.reply _ c.loop-reply-test.true c.loop-reply.invariant
    c.in_ok-push.ensures.items
