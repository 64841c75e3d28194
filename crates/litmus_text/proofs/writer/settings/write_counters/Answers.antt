use Rattle.std.proofs.Common.{refl, map}
use Rattle.litmus_text.specs.declared.config_line.ConfigLine.TheVariants as config_lines
use Rattle.litmus_text.proofs.Pieces.{next_piece}
use Rattle.litmus_text.specs.SettingsLines.{text_of_lines}
use Rattle.litmus_text.proofs.writer.settings.write_counters.Goals as goal

pub loop-counter-preserved : goal.loop-counter-preserved
loop-counter-preserved g c = λ new rest.
    c.loop-counter.invariant new
    (next_piece g.W.Write.write_str_gives (λ counters. text_of_lines (map config_lines.Counter counters))
    c.args.counters.now _ _ _
    c.loop-counter-test.true refl _ _ new c.in_ok-writeln.ensures.writes rest)
