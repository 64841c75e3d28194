use Rattle.std.proofs.lemmas.Result.{err_from_is_err_and, IfOk-weaker}
use Rattle.litmus.proofs.Faults.{not-run}
use Rattle.litmus.proofs.tests.write_walk.Goals as goal

pub returns-clause-done : goal.returns-clause-done
returns-clause-done g c =
    let read = c.in_ok-test in
    IfOk-weaker c.write_walk-ended.result _ _ (λ status ends. record {
      test = read.test;
      written = read.ensures.written;
      is = rw c.unwrap_or-most.ensures at ends;
    }) c.write_walk-ended.ensures.printed

pub returns-in_err-test-clause-fault : goal.returns-in_err-test-clause-fault
returns-in_err-test-clause-fault g c =
    let p = err_from_is_err_and c.from_residual.result c.from_residual.ensures.1 in
    rw (p.1, p.2)
    (not-run c.args.input.now _ c.in_err-test.ensures.refused c.in_err-test.ensures.line c.in_err-test.ensures.fault)
