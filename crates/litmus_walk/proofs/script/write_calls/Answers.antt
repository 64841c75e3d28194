use Rattle.std.proofs.Common.{refl}
use Rattle.litmus_text.proofs.Pieces.{next_piece}
use Rattle.litmus_walk.specs.Script.{text_of_calls}
use Rattle.litmus_walk.proofs.script.write_calls.Goals as goal

pub loop-made-preserved : goal.loop-made-preserved
loop-made-preserved g c = λ new rest.
    c.loop-made.invariant new
    (next_piece g.W.Write.write_str_gives text_of_calls c.args.calls.now _ _ _
    c.loop-made-test.true refl _ _ new c.in_ok-write_call.ensures rest)
