use Rattle.std.proofs.Common.{drop, map}
use Rattle.std.specs.Fmt.{WritesInCalls}
use Rattle.litmus_text.specs.JsonList.{with_commas, with_commas_from}
use Rattle.litmus_test.specs.Json.{name_of}
use Rattle.litmus_test.proofs.outcomes.json.write_names.Given as goal

-- after the remaining items all are written
abbrev pub invariant-loop-named : goal.invariant-loop-named
invariant-loop-named g l =
    let took = g.W.Write.write_str_gives in
    (new : g.row.W.Denot)
    → WritesInCalls took l.out (with_commas_from l.is_first (map name_of (drop l.named-index l.names))) new
    → WritesInCalls took l.fn.out (with_commas (map name_of l.names)) new
