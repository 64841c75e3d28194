use Rattle.std.proofs.Common.{◌++◌, drop}
use Rattle.std.specs.Prelude.{codes}
use Rattle.std.specs.Fmt.{WritesInCalls}
use Rattle.slice_text.specs.Line.{text_of_states}
use Rattle.slice_text.proofs.line.write_copies.Given as goal

-- after the remaining ones all are written
abbrev pub invariant-loop-state : goal.invariant-loop-state
invariant-loop-state g l =
    let took = g.W.Write.write_str_gives in
    (new : g.row.W.Denot) → WritesInCalls took l.out (text_of_states (drop l.state-index l.copies)) new
    → WritesInCalls took l.fn.out (codes " cores" ++ text_of_states l.copies) new
