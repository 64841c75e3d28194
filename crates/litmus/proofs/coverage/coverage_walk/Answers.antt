use Rattle.std.proofs.Common.{inl, inr}
use Rattle.std.proofs.lemmas.Result.{IfErr-weaker, IfOk-weaker}
use Rattle.litmus.proofs.coverage.coverage_walk.Goals as goal

pub returns-clause-done : goal.returns-clause-done
returns-clause-done g c =
    let read = c.in_ok-test in
    IfOk-weaker c.cover_walks-ended.result _ _ (λ status ends. record {
      test = read.test;
      written = read.ensures.written;
      is = rw (c.unwrap_or-rounds.ensures, c.unwrap_or-most.ensures) at ends;
    }) c.cover_walks-ended.ensures.done

pub returns-clause-fault : goal.returns-clause-fault
returns-clause-fault g c =
    let read = c.in_ok-test in
    IfErr-weaker c.cover_walks-ended.result _ _ (λ fault why. elim why [
      | inl run ↦ inl (inl run)
      | inr stopped ↦
          inr (record {
            test = read.test;
            written = read.ensures.written;
            is = rw (c.unwrap_or-rounds.ensures, c.unwrap_or-most.ensures) at stopped;
          })
    ]) c.cover_walks-ended.ensures.fault
