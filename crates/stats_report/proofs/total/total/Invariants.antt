use Rattle.std.proofs.Common.{◌≡◌, map, take}
use Rattle.stats_report.specs.Report.{core_total}
use Rattle.stats_report.proofs.total.total.Given as goal

-- the sum over the slices so far
abbrev pub invariant-loop-slice : goal.invariant-loop-slice
invariant-loop-slice l = l.total ≡ core_total (map (λ slice. slice.now) (take l.slice-index l.stats)) l.core l.column
