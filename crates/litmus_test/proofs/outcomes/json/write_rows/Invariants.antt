use Rattle.std.proofs.Common.{drop, map}
use Rattle.std.specs.Fmt.{WritesInCalls}
use Rattle.litmus_text.specs.JsonList.{with_commas, with_commas_from}
use Rattle.litmus_test.specs.Json.{outcome_of}
use Rattle.litmus_test.proofs.outcomes.json.write_rows.Given as goal

-- after the remaining items all are written
abbrev pub invariant-loop-row : goal.invariant-loop-row
invariant-loop-row g l =
    let took = g.W.Write.write_str_gives in
    (new : g.row.W.Denot)
    → WritesInCalls took l.out (with_commas_from l.is_first (map (outcome_of l.seed) (drop l.row-index l.rows))) new
    → WritesInCalls took l.fn.out (with_commas (map (outcome_of l.seed) l.rows)) new
