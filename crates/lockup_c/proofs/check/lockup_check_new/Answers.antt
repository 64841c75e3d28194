use Rattle.std.proofs.Common.{Some, ap, ◌∙◌}
use Rattle.lockup_c.proofs.check.lockup_check_new.Goals as goal

pub returns-in-Ok-clause-begun : goal.returns-in-Ok-clause-begun
returns-in-Ok-clause-begun c = λ done. record {
  judge = c.new.result;
  is = c.put-in-Ok.ensures ∙ ap Some c.in-Ok.ensures.ok;
  stands = c.new.ensures;
}
