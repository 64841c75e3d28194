use Rattle.stats_report.proofs.Appending.{lines_more}
use Rattle.stats_report.proofs.report.push_core_lines.Goals as goal

pub loop-core-preserved : goal.loop-core-preserved
loop-core-preserved c = lines_more _ _ _ _ c.loop-core.core c.loop-core.invariant c.in_ok-push_core_line.ensures
