use Rattle.std.proofs.Common.{drop, map}
use Rattle.std.specs.Fmt.{WritesInCalls}
use Rattle.litmus_text.specs.JsonList.{with_commas, with_commas_from}
use Rattle.litmus_text.specs.JsonNumber.{number_of}
use Rattle.litmus_test.proofs.outcomes.json.write_values.Given as goal

-- after the remaining items all are written
abbrev pub invariant-loop-value : goal.invariant-loop-value
invariant-loop-value g l =
    let took = g.W.Write.write_str_gives in
    (new : g.row.W.Denot)
    → WritesInCalls took l.out (with_commas_from l.is_first (map number_of (drop l.value-index l.values))) new
    → WritesInCalls took l.fn.out (with_commas (map number_of l.values)) new
