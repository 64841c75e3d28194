use Rattle.std.proofs.Common.{drop}
use Rattle.std.specs.Fmt.{WritesInCalls}
use Rattle.program_run.specs.Report.{names_of}
use Rattle.program_run.proofs.report.write_names.Given as goal

-- once the names that are left are written, all are
abbrev pub invariant-loop-column : goal.invariant-loop-column
invariant-loop-column g l =
    let took = g.W.Write.write_str_gives in
    (new : g.row.W.Denot) → WritesInCalls took l.out (names_of (drop l.column-index l.columns)) new
    → WritesInCalls took l.fn.out (names_of l.columns) new
