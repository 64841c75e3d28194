use Rattle.std.proofs.Common.{refl, map}
use Rattle.trace_check.specs.declared.trace_line.TraceLine.TheVariants as trace_lines
use Rattle.litmus_text.proofs.Pieces.{next_piece}
use Rattle.litmus_script.specs.Shown.{text_of_lines}
use Rattle.litmus_script.proofs.trace.write_entries.Goals as goal

pub loop-entry-preserved : goal.loop-entry-preserved
loop-entry-preserved g c = λ new rest.
    c.loop-entry.invariant new
    (next_piece g.W.Write.write_str_gives (λ left. text_of_lines (map trace_lines.Entry left)) c.args.log.now _ _ _
    c.loop-entry-test.true refl _ _ new c.in_ok-write_entry.ensures rest)
