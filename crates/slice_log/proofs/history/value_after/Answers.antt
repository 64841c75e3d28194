use Rattle.std.proofs.Common.{arith, sym}
use Rattle.slice_log.proofs.Values.{value-nil, value-more}
use Rattle.slice_log.proofs.history.value_after.Goals as goal

pub loop-entry-init : goal.loop-entry-init
loop-entry-init c = sym (value-nil c.args.initial c.args.word.0 (omega arith))

pub loop-entry-preserved : goal.loop-entry-preserved
loop-entry-preserved c =
    value-more _ _ _ _ _ _ _ c.loop-entry-test.true c.loop-entry.invariant c.value_after_one-value.ensures
