use Rattle.std.proofs.Common.{drop, length}
use Rattle.std.specs.Fmt.{WritesInCalls}
use Rattle.std.specs.List.{range_with_len}
use Rattle.litmus_text.specs.JsonList.{with_commas_from}
use Rattle.script_json.specs.Held.{copies_of, list_of_copies}
use Rattle.script_json.proofs.held.write_copies_of.Given as goal

-- once the copies that are left are written, all are
abbrev pub invariant-loop-core : goal.invariant-loop-core
invariant-loop-core g l =
    let took = g.W.Write.write_str_gives in
    let v = l.state.view in
    (new : g.row.W.Denot)
    → WritesInCalls took l.out (with_commas_from l.is_first (copies_of v l.line
    (drop l.core (range_with_len 0 (length v.caches))))) new
    → WritesInCalls took l.fn.out (list_of_copies v l.line) new
