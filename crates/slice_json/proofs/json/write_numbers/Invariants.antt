use Rattle.std.proofs.Common.{drop, map}
use Rattle.std.specs.Fmt.{WritesInCalls}
use Rattle.litmus_text.specs.JsonList.{with_commas, with_commas_from}
use Rattle.slice_json.specs.Json.{text_of_line_number}
use Rattle.slice_json.proofs.json.write_numbers.Given as goal

-- after the remaining lines all are written
abbrev pub invariant-loop-line : goal.invariant-loop-line
invariant-loop-line g l =
    let took = g.W.Write.write_str_gives in
    (new : g.row.W.Denot)
    → WritesInCalls took l.out (with_commas_from l.is_first (map text_of_line_number (drop l.line-index l.lines))) new
    → WritesInCalls took l.fn.out (with_commas (map text_of_line_number l.lines)) new
