use Rattle.std.proofs.Common.{drop, map}
use Rattle.std.specs.Fmt.{WritesInCalls}
use Rattle.litmus_text.specs.declared.config_line.ConfigLine.TheVariants as config_lines
use Rattle.litmus_text.specs.SettingsLines.{text_of_lines}
use Rattle.litmus_text.proofs.writer.settings.write_counters.Given as goal

-- after the remaining counters all are written
abbrev pub invariant-loop-counter : goal.invariant-loop-counter
invariant-loop-counter g l =
    let took = g.W.Write.write_str_gives in
    (new : g.row.W.Denot) → WritesInCalls took l.out
    (text_of_lines (map config_lines.Counter (drop l.counter-index l.counters))) new
    → WritesInCalls took l.fn.out (text_of_lines (map config_lines.Counter l.counters)) new
