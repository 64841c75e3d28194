use Rattle.std.proofs.Common.{ℕ, List, drop, length}
use Rattle.std.specs.Fmt.{WritesInCalls}
use Rattle.std.specs.List.{flat_map, range_with_len}
use Rattle.program_run.specs.Report.{core_rows, row_of}
use Rattle.program_run.specs.Tally.{counts_at}
use Rattle.program_run.proofs.report.write_cores.Given as goal

-- once the rows that are left are written, all are
abbrev pub invariant-loop-core : goal.invariant-loop-core
invariant-loop-core g l =
    let took = g.W.Write.write_str_gives in
    let row : ℕ → List ℕ = λ core. row_of core l.columns (counts_at l.cores core) in
    (new : g.row.W.Denot)
    → WritesInCalls took l.out (flat_map row (drop l.core (range_with_len 0 (length l.cores)))) new
    → WritesInCalls took l.fn.out (core_rows l.columns l.cores) new
