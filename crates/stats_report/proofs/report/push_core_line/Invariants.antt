use Rattle.std.proofs.Common.{◌≡◌, ◌++◌, take, map}
use Rattle.std.specs.String.{string_bytes}
use Rattle.std.specs.List.{flat_map}
use Rattle.stats_report.specs.Report.{cell_of}
use Rattle.stats_report.proofs.report.push_core_line.Given as goal

-- the numbers so far
abbrev pub invariant-loop-column : goal.invariant-loop-column
invariant-loop-column l =
    string_bytes l.text
    ≡ string_bytes l.initial.text
    ++ flat_map (cell_of (map (λ slice. slice.now) l.stats) l.core) (take l.column-index l.columns)
