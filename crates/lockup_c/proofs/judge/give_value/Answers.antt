use Rattle.std.proofs.Common.{Some, ap, refl}
use Rattle.lockup_c.proofs.judge.give_value.Goals as goal

pub returns-in-Histories-clause-given : goal.returns-in-Histories-clause-given
returns-in-Histories-clause-given c = λ done. record {
  was = c.in-Histories.judged;
  is = c.give_word.new.judged;
  before = ap Some c.in-Histories.is;
  after = refl;
  gives = c.give_word.ensures.given done;
}
