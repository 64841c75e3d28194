use Rattle.std.proofs.Common.{refl}
use Rattle.litmus_text.proofs.Pieces.{next_piece}
use Rattle.script_waves.specs.Values.{text_of_lines}
use Rattle.script_waves.proofs.values.write_lines.Goals as goal

pub loop-line-preserved : goal.loop-line-preserved
loop-line-preserved g c = λ new rest.
    c.loop-line.invariant new
    (next_piece g.W.Write.write_str_gives (text_of_lines c.args.machine.now.config c.args.machine.now.slices.items)
    c.args.lines.now
    _ _ _ c.loop-line-test.true refl _ _ new c.in_ok-write_in.ensures rest)
