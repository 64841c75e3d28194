use Rattle.std.proofs.Common.{◌∙◌, refl}
use Rattle.program_sweep.specs.Text.{line_of_setting}
use Rattle.litmus_text.proofs.Pieces.{last_pieces, next_pieces}
use Rattle.program_sweep.proofs.text.lines_of_settings.Goals as goal

pub loop-setting-preserved : goal.loop-setting-preserved
loop-setting-preserved c =
    next_pieces (line_of_setting c.args.row) c.args.settings.now c.loop-setting.setting-index c.setting-item.result _ _ _
    c.loop-setting-test.true c.setting-item.is refl c.in_ok-push_setting.ensures
    ∙ c.loop-setting.invariant

pub returns : goal.returns
returns c =
    last_pieces (line_of_setting c.args.row) c.args.settings.now c.loop-setting.setting-index _ c.loop-setting-test.false
    ∙ c.loop-setting.invariant
