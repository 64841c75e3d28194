use Rattle.std.proofs.Common.{[], arith, refl}
use Rattle.std.proofs.KnownBytes.{Appends-nil}
use Rattle.litmus_threads.proofs.Traces.{traces-ended, traces-more}
use Rattle.litmus_threads.proofs.trace.write_traces.Goals as goal

pub loop-slice-init : goal.loop-slice-init
loop-slice-init g c = λ cores owners audited. ([], refl, Appends-nil _)

pub loop-slice-preserved : goal.loop-slice-preserved
loop-slice-preserved g c =
    traces-more c.args.config.now c.args.audit.now.receipts.items c.args.audit.now.counters.items c.loop-slice.slice
    _ _ _ c.slices-slice-end.ensures.allowed.few_slices
    (rw c.slices-slice-end.ensures.slices at c.loop-slice-test.true) c.loop-slice.invariant
    c.in_ok-write_slice.ensures.trace

pub returns-clause-traces : goal.returns-clause-traces
returns-clause-traces g c =
    let past = c.loop-slice-test.false in
    let end = c.loop-slice.auto.slice-end in
    let is = c.slices-slice-end.ensures.slices in
    traces-ended c.args.config.now c.args.audit.now.receipts.items c.args.audit.now.counters.items c.loop-slice.slice
    _ _ (omega (arith, past, end, is)) c.loop-slice.invariant
