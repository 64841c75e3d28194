use Rattle.std.proofs.Common.{refl}
use Rattle.std.proofs.Output.{writes_in_calls_append}
use Rattle.litmus_text.proofs.Pieces.{next_piece}
use Rattle.slice_text.specs.Line.{text_of_states}
use Rattle.slice_text.proofs.line.write_copies.Goals as goal

pub loop-state-init : goal.loop-state-init
loop-state-init g c =
    λ new more. writes_in_calls_append g.W.Write.write_str_gives _ _ _ _ _ c.in_ok-write.ensures.writes more

pub loop-state-preserved : goal.loop-state-preserved
loop-state-preserved g c = λ new rest.
    c.loop-state.invariant new
    (next_piece g.W.Write.write_str_gives text_of_states c.args.copies.now _ _ _ c.loop-state-test.true refl _ _ new
    c.in_ok-write-2.ensures.writes rest)
