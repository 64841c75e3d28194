use Rattle.std.proofs.lemmas.Result.{err_from_is_err_and}
use Rattle.litmus.proofs.Faults.{not-run}
use Rattle.litmus.proofs.parts.print_parts.Goals as goal

pub returns-in-Ok-clause-done : goal.returns-in-Ok-clause-done
returns-in-Ok-clause-done g c = λ _.
    let read = c.in_ok-test in
    record {
      test = read.test;
      written = read.ensures.written;
      is = rw (c.unwrap_or-rounds.ensures, c.unwrap_or-most.ensures, c.sum_of-sum.ensures) at c.in-Ok.ensures.printed;
    }

pub returns-in_err-test-clause-fault : goal.returns-in_err-test-clause-fault
returns-in_err-test-clause-fault g c =
    let p = err_from_is_err_and c.from_residual.result c.from_residual.ensures.1 in
    rw (p.1, p.2)
    (not-run c.args.input.now _ c.in_err-test.ensures.refused c.in_err-test.ensures.line c.in_err-test.ensures.fault)
