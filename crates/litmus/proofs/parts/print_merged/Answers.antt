use Rattle.std.proofs.Common.{ℕ, Result, Ok, Err}
use Rattle.std.specs.Prelude.{IfOk}
use Rattle.std.proofs.lemmas.Result.{err_from_is_err_and, IfOk-weaker}
use Rattle.litmus.proofs.Faults.{not-run}
use Rattle.litmus.proofs.parts.print_merged.Goals as goal

-- what holds of a result if something is given holds of it when it is given
where-given : {B E : Type 0} (Given : B → Type 0) (Holds : B → ℕ → Type 0) (result : Result ℕ E)
    → ((b : B) → Given b → IfOk result (Holds b)) → IfOk result (λ n. (b : B) → Given b → Holds b n)
where-given Given Holds (Ok n) holds = holds
where-given Given Holds (Err e) holds = tt

pub returns-clause-done : goal.returns-clause-done
returns-clause-done g c =
    let read = c.in_ok-test in
    IfOk-weaker c.print_merged-ended.result _ _ (λ status prints. record {
      test = read.test;
      written = read.ensures.written;
      is = prints;
    }) (where-given _ _ c.print_merged-ended.result c.print_merged-ended.ensures.printed)

pub returns-in_err-test-clause-fault : goal.returns-in_err-test-clause-fault
returns-in_err-test-clause-fault g c =
    let p = err_from_is_err_and c.from_residual.result c.from_residual.ensures.1 in
    rw (p.1, p.2)
    (not-run c.args.input.now _ c.in_err-test.ensures.refused c.in_err-test.ensures.line c.in_err-test.ensures.fault)
