use Rattle.std.proofs.Common.{◌≡◌, ◌++◌, map}
use Rattle.std.specs.String.{string_bytes}
use Rattle.stats_report.specs.Report.{core_lines}
use Rattle.stats_report.proofs.report.push_core_lines.Given as goal

-- the lines so far
abbrev pub invariant-loop-core : goal.invariant-loop-core
invariant-loop-core l =
    string_bytes l.text ≡ string_bytes l.initial.text ++ core_lines l.columns (map (λ slice. slice.now) l.stats) l.core
