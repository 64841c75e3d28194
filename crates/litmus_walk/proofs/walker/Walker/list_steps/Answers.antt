use Rattle.std.proofs.Common.{sym, ◌∙◌}
use Rattle.litmus_walk.specs.Moves.{may_step}
use Rattle.litmus_walk.specs.declared.moves.Move.TheVariants as moves
use Rattle.litmus_walk.proofs.ListLemmas.{failing-more, passing-more}
use Rattle.litmus_walk.proofs.walker.Walker.list_steps.Goals as goal

pub loop-number-preserved-then-not-may_step : goal.loop-number-preserved-then-not-may_step
loop-number-preserved-then-not-may_step c =
    failing-more moves.Step (may_step c.args.threads.now c.args.self.now.places.items) _ _ c.loop-number.number _
    c.loop-number-test.true c.loop-number.invariant (sym c.may_step.ensures ∙ c.if-not-may_step.true)

pub loop-number-preserved : goal.loop-number-preserved
loop-number-preserved c =
    passing-more moves.Step (may_step c.args.threads.now c.args.self.now.places.items) _ _ _ c.loop-number.number _
    c.loop-number-test.true c.loop-number.invariant (sym c.may_step.ensures ∙ c.if-not-may_step.false)
    c.in_ok-push.ensures.items
