use Rattle.std.proofs.Common.{◌∙◌}
use Rattle.slice_log.specs.Log.{initially}
use Rattle.slice_log.proofs.Pushes.{IsLegal-more}
use Rattle.slice_log.proofs.checks.is_legal.Goals as goal

pub loop-number-preserved : goal.loop-number-preserved
loop-number-preserved c =
    IsLegal-more (initially c.args.init.now) _ _ _ _ _ c.loop-number-test.true c.loop-number.invariant
    c.initial_of-initial.ensures c.value_after-value.ensures (c.if-entry-reply_to.false ∙ c.reply_to.ensures)
