use Rattle.std.proofs.Common.{drop}
use Rattle.std.specs.Fmt.{WritesInCalls}
use Rattle.litmus_threads.specs.Trace.{text_of_counters}
use Rattle.litmus_threads.proofs.notes.write_counters.Given as goal

-- after the lines of the remaining counters all are written
abbrev pub invariant-loop-counter : goal.invariant-loop-counter
invariant-loop-counter g l =
    let took = g.W.Write.write_str_gives in
    let text_of = text_of_counters l.config l.slice.0 l.log in
    (new : g.row.W.Denot) → WritesInCalls took l.out (text_of (drop l.counter-index l.counters)) new
    → WritesInCalls took l.fn.out (text_of l.counters) new
