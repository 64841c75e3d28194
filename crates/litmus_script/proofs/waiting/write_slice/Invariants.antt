use Rattle.std.proofs.Common.{length}
use Rattle.std.specs.Fmt.{WritesInCalls}
use Rattle.litmus_script.specs.Waiting.{flights_of, lines_of, picks_of}
use Rattle.litmus_script.proofs.waiting.write_slice.Given as goal

-- after the remaining lines all are written
abbrev pub invariant-loop-pick : goal.invariant-loop-pick
invariant-loop-pick g l =
    let took = g.W.Write.write_str_gives in
    (new : g.row.W.Denot) → WritesInCalls took l.out (lines_of (flights_of l.state.view l.left)) new
    → WritesInCalls took l.fn.out (lines_of (flights_of l.state.view (picks_of l.state.view))) new

abbrev pub decreases-loop-pick : goal.decreases-loop-pick
decreases-loop-pick g l = length l.left
