use Rattle.lockup_c.proofs.check.lockup_check_begin.Goals as goal

pub returns-then-code-ne-NO_MEMORY-clause-named : goal.returns-then-code-ne-NO_MEMORY-clause-named
returns-then-code-ne-NO_MEMORY-clause-named c = λ done.
    let made = c.name_word-code.ensures.named done in record {
      was = made.was;
      is = made.is;
      before =
          let had = c.in-Some.ensures.some in let lent = c.deref_mut.ensures.value in let was = made.before in cc;
      after =
          let put = c.put.ensures in let back = c.deref_mut.ensures.writes_back in let is = made.after in cc;
      adds = made.adds;
    }
