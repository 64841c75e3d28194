use Rattle.std.proofs.Common.{drop}
use Rattle.std.specs.Fmt.{WritesInCalls}
use Rattle.script_waves.specs.Values.{text_of_lines}
use Rattle.script_waves.proofs.values.write_lines.Given as goal

-- once the lines that are left are written, all are
abbrev pub invariant-loop-line : goal.invariant-loop-line
invariant-loop-line g l =
    let took = g.W.Write.write_str_gives in
    let config = l.machine.config in
    let slices = l.machine.slices.items in
    (new : g.row.W.Denot) → WritesInCalls took l.out (text_of_lines config slices (drop l.line-index l.lines)) new
    → WritesInCalls took l.fn.out (text_of_lines config slices l.lines) new
