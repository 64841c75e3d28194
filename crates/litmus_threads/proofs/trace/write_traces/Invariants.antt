use Rattle.litmus_threads.proofs.Traces.{HasTraces}
use Rattle.litmus_threads.proofs.trace.write_traces.Given as goal

abbrev pub invariant-loop-slice : goal.invariant-loop-slice
invariant-loop-slice g l =
    let contents = g.W.Write.contents in
    HasTraces l.config l.audit.receipts.items l.audit.counters.items (contents l.fn.out) l.slice (contents l.out)
