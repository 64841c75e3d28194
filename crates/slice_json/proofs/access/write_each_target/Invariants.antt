use Rattle.std.proofs.Common.{drop, map}
use Rattle.std.specs.Fmt.{WritesInCalls}
use Rattle.slice_json.specs.Access.{text_of_target}
use Rattle.litmus_text.specs.JsonList.{with_commas, with_commas_from}
use Rattle.slice_json.proofs.access.write_each_target.Given as goal

-- after the remaining targets all are written
abbrev pub invariant-loop-target : goal.invariant-loop-target
invariant-loop-target g l =
    let took = g.W.Write.write_str_gives in
    (new : g.row.W.Denot)
    → WritesInCalls took l.out (with_commas_from l.is_first (map text_of_target (drop l.target-index l.targets))) new
    → WritesInCalls took l.fn.out (with_commas (map text_of_target l.targets)) new
