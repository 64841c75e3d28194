use Rattle.std.proofs.Common.{refl}
use Rattle.litmus_text.proofs.Pieces.{next_piece}
use Rattle.program_run.specs.Calls.{text_of_calls}
use Rattle.program_run.proofs.script.write_calls.Goals as goal

pub loop-call-preserved : goal.loop-call-preserved
loop-call-preserved g c = λ new rest.
    c.loop-call.invariant new
    (next_piece g.W.Write.write_str_gives text_of_calls c.args.calls.now _ _ _
    c.loop-call-test.true refl _ _ new c.in_ok-write_command.ensures rest)
