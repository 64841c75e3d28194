use Rattle.lockup_c.proofs.judge.lockup_judge_begin.Goals as goal

pub returns-then-code-ne-NO_MEMORY-clause-given : goal.returns-then-code-ne-NO_MEMORY-clause-given
returns-then-code-ne-NO_MEMORY-clause-given c = λ done.
    let made = c.give_value-code.ensures.given done in record {
      was = made.was;
      is = made.is;
      before =
          let had = c.in-Some.ensures.some in let lent = c.deref_mut.ensures.value in let was = made.before in cc;
      after =
          let put = c.put.ensures in let back = c.deref_mut.ensures.writes_back in let is = made.after in cc;
      gives = made.gives;
    }
