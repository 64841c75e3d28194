use Rattle.std.proofs.Common.{drop}
use Rattle.std.specs.Fmt.{WritesInCalls}
use Rattle.slice_text.specs.Line.{text_of_words}
use Rattle.slice_text.proofs.line.write_words.Given as goal

-- after the remaining ones all are written
abbrev pub invariant-loop-word : goal.invariant-loop-word
invariant-loop-word g l =
    let took = g.W.Write.write_str_gives in
    (new : g.row.W.Denot) → WritesInCalls took l.out (text_of_words (drop l.word-index l.words)) new
    → WritesInCalls took l.fn.out (text_of_words l.words) new
