use Rattle.std.proofs.Common.{drop}
use Rattle.std.specs.Fmt.{WritesInCalls}
use Rattle.script_explained.specs.Named.{text_of_copies}
use Rattle.script_explained.proofs.named.write_copies.Given as goal

-- once the copies of the lines that are left are written, all are
abbrev pub invariant-loop-line : goal.invariant-loop-line
invariant-loop-line g l =
    let took = g.W.Write.write_str_gives in
    (new : g.row.W.Denot)
    → WritesInCalls took l.out (text_of_copies l.which l.state.view l.core (drop l.line-index l.lines)) new
    → WritesInCalls took l.fn.out (text_of_copies l.which l.state.view l.core l.lines) new
