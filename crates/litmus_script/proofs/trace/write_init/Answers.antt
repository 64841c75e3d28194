use Rattle.std.proofs.Common.{refl, map}
use Rattle.trace_check.specs.declared.trace_line.TraceLine.TheVariants as trace_lines
use Rattle.litmus_text.proofs.Pieces.{next_piece}
use Rattle.litmus_script.specs.Shown.{text_of_lines}
use Rattle.litmus_script.proofs.trace.write_init.Goals as goal

pub loop-word-preserved : goal.loop-word-preserved
loop-word-preserved g c = λ new rest.
    c.loop-word.invariant new
    (next_piece g.W.Write.write_str_gives (λ left. text_of_lines (map (λ pair. trace_lines.Init pair.0 pair.1) left))
    c.args.init.now _ _ _
    c.loop-word-test.true refl _ _ new c.in_ok-write_initial.ensures rest)
