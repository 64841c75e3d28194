use Rattle.std.proofs.Common.{◌≡◌, ◌++◌, take}
use Rattle.std.specs.String.{string_bytes}
use Rattle.std.specs.List.{flat_map}
use Rattle.stats_report.specs.Column.{name_of}
use Rattle.stats_report.specs.Report.{right_in_10}
use Rattle.stats_report.proofs.report.push_heading.Given as goal

-- the names so far
abbrev pub invariant-loop-column : goal.invariant-loop-column
invariant-loop-column l =
    string_bytes l.text
    ≡ string_bytes l.initial.text ++ flat_map (λ column. right_in_10 (name_of column)) (take l.column-index l.columns)
