use Rattle.std.proofs.Common.{◌∙◌}
use Rattle.program_sweep.proofs.TextLemmas.{end_lines, next_line}
use Rattle.program_sweep.proofs.text.insert.Goals as goal

pub loop-line-preserved : goal.loop-line-preserved
loop-line-preserved c =
    next_line c.args.added.now _ _ _ c.loop-line.is_before _ _ _ _ _ c.in-Some.ensures.steps
    c.ends_settings-ends.ensures c.in_ok-push_added.ensures c.in_ok-push_line.ensures c.is_still_before-is_before.ensures
    ∙ c.loop-line.invariant

pub returns : goal.returns
returns c =
    end_lines c.args.added.now c.loop-line.is_before _ _ _ c.in-None.ensures.steps.0 c.in_ok-push_added-2.ensures
    ∙ c.loop-line.invariant
