use Rattle.std.proofs.Common.{drop, map}
use Rattle.std.specs.Fmt.{WritesInCalls}
use Rattle.trace_check.specs.declared.trace_line.TraceLine.TheVariants as trace_lines
use Rattle.litmus_script.specs.Shown.{text_of_lines}
use Rattle.litmus_script.proofs.trace.write_entries.Given as goal

-- after the remaining entries all are written
abbrev pub invariant-loop-entry : goal.invariant-loop-entry
invariant-loop-entry g l =
    let took = g.W.Write.write_str_gives in
    (new : g.row.W.Denot) →
    WritesInCalls took l.out (text_of_lines (map trace_lines.Entry (drop l.entry-index l.log))) new
    → WritesInCalls took l.fn.out (text_of_lines (map trace_lines.Entry l.log)) new
