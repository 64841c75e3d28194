use Rattle.std.proofs.Common.{sym, ◌∙◌}
use Rattle.program_run.proofs.Totals.{totals_more}
use Rattle.program_run.proofs.tally.total.Goals as goal

pub loop-counts-preserved : goal.loop-counts-preserved
loop-counts-preserved c =
    let more = totals_more c.args.lines.now c.loop-counts.counts-index _ c.loop-counts-test.true in
    let added = rw c.loop-counts.invariant at c.add.ensures in
    added ∙ sym more
