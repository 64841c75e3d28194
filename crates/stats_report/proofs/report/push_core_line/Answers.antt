use Rattle.std.proofs.Common.{map}
use Rattle.stats_report.specs.Report.{cell_of}
use Rattle.stats_report.proofs.Appending.{cells_more}
use Rattle.stats_report.proofs.report.push_core_line.Goals as goal

pub loop-column-preserved : goal.loop-column-preserved
loop-column-preserved c =
    cells_more (cell_of (map (λ slice. slice.now) c.args.stats.now) c.args.core) _ _ _ c.args.columns.now
    c.loop-column.column-index _ c.loop-column-test.true c.loop-column.invariant c.in_ok-push_cell.ensures
