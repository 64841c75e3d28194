use Rattle.std.proofs.Common.{Some, ap, ◌∙◌}
use Rattle.lockup_c.proofs.judge.lockup_judge_new.Goals as goal

pub returns-in-Ok-clause-begun : goal.returns-in-Ok-clause-begun
returns-in-Ok-clause-begun c = λ done. record {
  judged = c.new.result;
  is = c.put-in-Ok.ensures ∙ ap Some c.in-Ok.ensures.ok;
  each_word = c.new.ensures.extent;
  inits = c.new.ensures.told.inits;
  accesses = c.new.ensures.told.accesses;
}
