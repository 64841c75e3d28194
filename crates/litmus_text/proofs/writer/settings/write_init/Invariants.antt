use Rattle.std.proofs.Common.{drop, map}
use Rattle.std.specs.Fmt.{WritesInCalls}
use Rattle.litmus_text.specs.SettingsLines.{init_line, text_of_lines}
use Rattle.litmus_text.proofs.writer.settings.write_init.Given as goal

-- after the remaining values all are written
abbrev pub invariant-loop-word : goal.invariant-loop-word
invariant-loop-word g l =
    let took = g.W.Write.write_str_gives in
    (new : g.row.W.Denot) → WritesInCalls took l.out (text_of_lines (map init_line (drop l.word-index l.init))) new
    → WritesInCalls took l.fn.out (text_of_lines (map init_line l.init)) new
