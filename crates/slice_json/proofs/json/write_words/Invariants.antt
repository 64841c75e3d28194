use Rattle.std.proofs.Common.{drop, map}
use Rattle.std.specs.Fmt.{WritesInCalls}
use Rattle.litmus_text.specs.JsonList.{with_commas, with_commas_from}
use Rattle.slice_json.specs.Json.{text_of_value}
use Rattle.slice_json.proofs.json.write_words.Given as goal

-- after the remaining words all are written
abbrev pub invariant-loop-word : goal.invariant-loop-word
invariant-loop-word g l =
    let took = g.W.Write.write_str_gives in
    (new : g.row.W.Denot)
    → WritesInCalls took l.out (with_commas_from l.is_first (map text_of_value (drop l.word-index l.words))) new
    → WritesInCalls took l.fn.out (with_commas (map text_of_value l.words)) new
