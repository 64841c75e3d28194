use Rattle.std.proofs.Common.{refl}
use Rattle.litmus_text.proofs.Pieces.{next_piece}
use Rattle.script_explained.specs.Named.{text_of_copies}
use Rattle.script_explained.proofs.named.write_copies.Goals as goal

pub loop-line-preserved : goal.loop-line-preserved
loop-line-preserved g c = λ new rest.
    c.loop-line.invariant new
    (next_piece g.W.Write.write_str_gives (text_of_copies c.args.which c.args.state.now.view c.args.core)
    c.args.lines.now _ _ _ c.loop-line-test.true refl _ _ new c.in_ok-write_copy.ensures rest)
