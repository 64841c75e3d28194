use Rattle.lockup_c.proofs.judge.lockup_judge_access.Goals as goal

pub returns-then-code-ne-NO_MEMORY-clause-taken : goal.returns-then-code-ne-NO_MEMORY-clause-taken
returns-then-code-ne-NO_MEMORY-clause-taken c = λ done.
    let made = c.take_access-code.ensures.taken done in record {
      was = made.was;
      is = made.is;
      before =
          let had = c.in-Some.ensures.some in let lent = c.deref_mut.ensures.value in let was = made.before in cc;
      after =
          let put = c.put.ensures in let back = c.deref_mut.ensures.writes_back in let is = made.after in cc;
      adds = made.adds;
    }
