use Rattle.std.proofs.Common.{◌∙◌, arith, sym}
use Rattle.program_run.proofs.FrontLemmas.{within-front}
use Rattle.program_run.proofs.OwedLemmas.{front_lists_none, line_more, lines_all}
use Rattle.program_run.proofs.front.list_behind.Goals as goal

pub loop-line-init : goal.loop-line-init
loop-line-init c = front_lists_none c.args.state.now c.args.idle _ c.log.ensures.holds c.requires

pub loop-line-preserved : goal.loop-line-preserved
loop-line-preserved c =
    line_more c.args.state.now c.loop-line.place c.in-Some.line _ _ _ (sym c.in-Some.is ∙ c.ring_line.ensures)
    c.loop-line.invariant c.in_ok-list_line.ensures

pub loop-line-smaller : goal.loop-line-smaller
loop-line-smaller c =
    let within = within-front c.args.state.now c.loop-line.place c.in-Some.line (sym c.in-Some.is ∙ c.ring_line.ensures) in
    omega (arith, within)

pub returns : goal.returns
returns c =
    lines_all c.args.state.now c.loop-line.place _ _ (sym c.in_default.is ∙ c.ring_line.ensures) c.loop-line.invariant
