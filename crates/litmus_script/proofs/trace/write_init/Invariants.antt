use Rattle.std.proofs.Common.{drop, map}
use Rattle.std.specs.Fmt.{WritesInCalls}
use Rattle.trace_check.specs.declared.trace_line.TraceLine.TheVariants as trace_lines
use Rattle.litmus_script.specs.Shown.{text_of_lines}
use Rattle.litmus_script.proofs.trace.write_init.Given as goal

-- after the remaining values all are written
abbrev pub invariant-loop-word : goal.invariant-loop-word
invariant-loop-word g l =
    let took = g.W.Write.write_str_gives in
    (new : g.row.W.Denot) → WritesInCalls took l.out
    (text_of_lines (map (λ pair. trace_lines.Init pair.0 pair.1) (drop l.word-index l.init))) new
    → WritesInCalls took l.fn.out (text_of_lines (map (λ pair. trace_lines.Init pair.0 pair.1) l.init)) new
