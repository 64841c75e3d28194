use Rattle.std.proofs.Common.{drop}
use Rattle.std.specs.Fmt.{WritesInCalls}
use Rattle.std.specs.List.{flat_map}
use Rattle.litmus_test.specs.OutcomesText.{line_of}
use Rattle.litmus_test.proofs.outcomes.text.write_rows.Given as goal

-- after the remaining lines all are written
abbrev pub invariant-loop-row : goal.invariant-loop-row
invariant-loop-row g l =
    let took = g.W.Write.write_str_gives in
    (new : g.row.W.Denot)
    → WritesInCalls took l.out (flat_map (line_of l.test l.seed) (drop l.row-index l.rows)) new
    → WritesInCalls took l.fn.out (flat_map (line_of l.test l.seed) l.rows) new
