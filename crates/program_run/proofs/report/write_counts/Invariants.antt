use Rattle.std.proofs.Common.{drop}
use Rattle.std.specs.Fmt.{WritesInCalls}
use Rattle.program_run.specs.Report.{counts_of}
use Rattle.program_run.proofs.report.write_counts.Given as goal

-- once the counts that are left are written, all are
abbrev pub invariant-loop-column : goal.invariant-loop-column
invariant-loop-column g l =
    let took = g.W.Write.write_str_gives in
    (new : g.row.W.Denot) → WritesInCalls took l.out (counts_of (drop l.column-index l.columns) l.counts) new
    → WritesInCalls took l.fn.out (counts_of l.columns l.counts) new
