use Rattle.std.proofs.Common.{drop}
use Rattle.std.specs.Fmt.{WritesInCalls}
use Rattle.litmus_script.specs.Waiting.{in_flight, lines_of}
use Rattle.litmus_script.proofs.waiting.write_slices.Given as goal

-- after the lines of the remaining slices all are written
abbrev pub invariant-loop-state : goal.invariant-loop-state
invariant-loop-state g l =
    let took = g.W.Write.write_str_gives in
    (new : g.row.W.Denot) → WritesInCalls took l.out (lines_of (in_flight (drop l.state-index l.slices))) new
    → WritesInCalls took l.fn.out (lines_of (in_flight l.slices)) new
