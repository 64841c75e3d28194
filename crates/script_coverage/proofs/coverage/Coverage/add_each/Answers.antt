use Rattle.script_coverage.proofs.Lists.{counted_end, counted_more}
use Rattle.script_coverage.proofs.coverage.Coverage.add_each.Goals as goal

pub loop-cell-preserved : goal.loop-cell-preserved
loop-cell-preserved c =
    rw c.in_ok-add.ensures.added
    (counted_more c.args.cells.now c.loop-cell.cell-index _ _ _ c.loop-cell-test.true c.loop-cell.invariant)

pub returns : goal.returns
returns c = counted_end c.args.cells.now c.loop-cell.cell-index _ _ c.loop-cell-test.false c.loop-cell.invariant
