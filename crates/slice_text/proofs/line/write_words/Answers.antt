use Rattle.std.proofs.Common.{refl}
use Rattle.litmus_text.proofs.Pieces.{next_piece}
use Rattle.slice_text.specs.Line.{text_of_words}
use Rattle.slice_text.proofs.line.write_words.Goals as goal

pub loop-word-preserved : goal.loop-word-preserved
loop-word-preserved g c = λ new rest.
    c.loop-word.invariant new
    (next_piece g.W.Write.write_str_gives text_of_words c.args.words.now _ _ _ c.loop-word-test.true refl _ _ new
    c.in_ok-write.ensures.writes rest)
