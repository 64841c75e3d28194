use Rattle.litmus_walk.specs.Moves.{deliveries_at}
use Rattle.litmus_walk.proofs.ListLemmas.{each-more}
use Rattle.litmus_walk.proofs.walker.Walker.list_deliveries.Goals as goal

pub loop-line-preserved : goal.loop-line-preserved
loop-line-preserved c =
    each-more (deliveries_at c.args.self.now.recorded) _ _ _ c.args.lines.now c.loop-line.line-index _
    c.loop-line-test.true c.loop-line.invariant c.in_ok-list_at.ensures
