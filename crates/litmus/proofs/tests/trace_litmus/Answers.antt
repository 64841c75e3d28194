use Rattle.std.specs.Prelude.{IfOk}
use Rattle.std.specs.Io.KnownBytes.{Appends}
use Rattle.std.proofs.lemmas.Result.{err_from_is_err_and, IfOk-weaker}
use Rattle.litmus_threads.specs.Trace.{IsTraceEnd}
use Rattle.litmus.proofs.Faults.{not-run}
use Rattle.litmus.proofs.tests.trace_litmus.Goals as goal

pub returns-clause-done : goal.returns-clause-done
returns-clause-done g c =
    let contents = g.W.Write.contents in
    let read = c.in_ok-test in
    let traced : IfOk c.trace_test-ended.result (IsTraceEnd read.test c.args.round
    (λ text. Appends (contents c.args.out.now) (contents c.trace_test-ended.new.out) text)) = search in
    IfOk-weaker c.trace_test-ended.result _ _ (λ status ends. record {
      test = read.test;
      written = read.ensures.written;
      is = ends;
    }) traced

pub returns-in_err-test-clause-fault : goal.returns-in_err-test-clause-fault
returns-in_err-test-clause-fault g c =
    let p = err_from_is_err_and c.from_residual.result c.from_residual.ensures.1 in
    rw (p.1, p.2)
    (not-run c.args.input.now _ c.in_err-test.ensures.refused c.in_err-test.ensures.line c.in_err-test.ensures.fault)
