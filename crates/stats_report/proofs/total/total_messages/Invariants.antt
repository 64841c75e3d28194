use Rattle.std.proofs.Common.{◌≡◌, map, take}
use Rattle.stats_report.specs.Report.{message_totals}
use Rattle.stats_report.proofs.total.total_messages.Given as goal

-- the sums over the slices so far
abbrev pub invariant-loop-slice : goal.invariant-loop-slice
invariant-loop-slice l = l.total ≡ message_totals (map (λ slice. slice.now) (take l.slice-index l.stats))
