use Rattle.std.proofs.Common.{drop, map}
use Rattle.std.specs.Fmt.{WritesInCalls}
use Rattle.litmus_text.specs.JsonList.{with_commas, with_commas_from}
use Rattle.litmus_test.specs.Json.{word_of}
use Rattle.litmus_test.proofs.outcomes.json.write_words.Given as goal

-- after the remaining items all are written
abbrev pub invariant-loop-word : goal.invariant-loop-word
invariant-loop-word g l =
    let took = g.W.Write.write_str_gives in
    (new : g.row.W.Denot)
    → WritesInCalls took l.out (with_commas_from l.is_first (map word_of (drop l.word-index l.words))) new
    → WritesInCalls took l.fn.out (with_commas (map word_of l.words)) new
