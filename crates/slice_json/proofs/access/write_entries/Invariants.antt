use Rattle.std.proofs.Common.{drop, map}
use Rattle.std.specs.Fmt.{WritesInCalls}
use Rattle.slice_json.specs.Access.{list_of_entries, text_of_entry}
use Rattle.litmus_text.specs.JsonList.{with_commas_from}
use Rattle.slice_json.proofs.access.write_entries.Given as goal

-- after the remaining entries all are written
abbrev pub invariant-loop-number : goal.invariant-loop-number
invariant-loop-number g l =
    let took = g.W.Write.write_str_gives in
    (new : g.row.W.Denot)
    → WritesInCalls took l.out (with_commas_from l.is_first (map text_of_entry (drop l.number l.log))) new
    → WritesInCalls took l.fn.out (list_of_entries (drop l.first l.log)) new
