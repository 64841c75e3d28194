use Rattle.std.proofs.Common.{ℕ, List, drop, length}
use Rattle.std.specs.Fmt.{WritesInCalls}
use Rattle.std.specs.List.{flat_map, range_with_len}
use Rattle.program_run.specs.Report.{usage_row, usage_rows}
use Rattle.program_run.specs.Usage.{usage_at}
use Rattle.program_run.proofs.report.write_usage_rows.Given as goal

-- once the rows that are left are written, all are
abbrev pub invariant-loop-core : goal.invariant-loop-core
invariant-loop-core g l =
    let took = g.W.Write.write_str_gives in
    let row : ℕ → List ℕ = λ core. usage_row core (usage_at l.usages core) in
    (new : g.row.W.Denot)
    → WritesInCalls took l.out (flat_map row (drop l.core (range_with_len 0 (length l.usages)))) new
    → WritesInCalls took l.fn.out (usage_rows l.usages) new
