use Rattle.std.proofs.Common.{map}
use Rattle.litmus_text.proofs.Pieces.{next_piece}
use Rattle.litmus_text.proofs.SettingsLemmas.{init_text}
use Rattle.litmus_text.specs.SettingsLines.{init_line, text_of_lines}
use Rattle.litmus_text.proofs.writer.settings.write_init.Goals as goal

pub loop-word-preserved : goal.loop-word-preserved
loop-word-preserved g c = λ new rest.
    c.loop-word.invariant new
    (next_piece g.W.Write.write_str_gives (λ init. text_of_lines (map init_line init)) c.args.init.now _ _ _
    c.loop-word-test.true (init_text _ _) _ _ new c.in_ok-writeln.ensures.writes rest)
