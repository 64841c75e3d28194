use Rattle.program_sweep.proofs.ReadLemmas.{one_read}
use Rattle.program_sweep.proofs.sweep.read_settings.Goals as goal

pub loop-text-preserved : goal.loop-text-preserved
loop-text-preserved c =
    one_read c.args.texts.now c.loop-text.text-index _ c.loop-text.settings.items _ c.in_ok-setting.setting
    c.loop-text-test.true c.loop-text.invariant c.in_ok-setting.ensures c.in_ok-push.ensures.items
