use Rattle.std.proofs.Common.{drop}
use Rattle.std.specs.Fmt.{WritesInCalls}
use Rattle.script_waves.specs.Values.{text_of_states}
use Rattle.script_waves.proofs.values.write_copies.Given as goal

-- once those that are left are written, all are
abbrev pub invariant-loop-core : goal.invariant-loop-core
invariant-loop-core g l =
    let took = g.W.Write.write_str_gives in
    (new : g.row.W.Denot) → WritesInCalls took l.out (text_of_states l.line l.core (drop l.core l.copies)) new
    → WritesInCalls took l.fn.out (text_of_states l.line 0 l.copies) new
