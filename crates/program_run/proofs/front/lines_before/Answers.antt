use Rattle.program_run.proofs.FrontLemmas.{apart-more}
use Rattle.program_run.proofs.front.lines_before.Goals as goal

pub loop-place-preserved : goal.loop-place-preserved
loop-place-preserved c =
    apart-more c.args.state.now c.loop-place.place c.args.line c.args.left c.ring_line.result c.loop-place.invariant
    c.ring_line.ensures (c.is_one_of.ensures c.if-is_one_of.false)
