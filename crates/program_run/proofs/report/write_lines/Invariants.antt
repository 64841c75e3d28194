use Rattle.std.proofs.Common.{ℕ, List, drop, length}
use Rattle.std.specs.Fmt.{WritesInCalls}
use Rattle.std.specs.List.{flat_map, range_with_len}
use Rattle.program_run.specs.Report.{line_row, line_rows}
use Rattle.program_run.specs.Tally.{counts_at}
use Rattle.program_run.proofs.report.write_lines.Given as goal

-- once the rows that are left are written, all are
abbrev pub invariant-loop-line : goal.invariant-loop-line
invariant-loop-line g l =
    let took = g.W.Write.write_str_gives in
    let row : ℕ → List ℕ = λ line. line_row line (counts_at l.lines line) in
    (new : g.row.W.Denot)
    → WritesInCalls took l.out (flat_map row (drop l.line (range_with_len 0 (length l.lines)))) new
    → WritesInCalls took l.fn.out (line_rows l.lines) new
