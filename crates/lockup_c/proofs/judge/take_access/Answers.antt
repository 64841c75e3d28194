use Rattle.std.proofs.Common.{Some, ap, refl}
use Rattle.lockup_c.proofs.judge.take_access.Goals as goal

pub returns-in-Histories-clause-taken : goal.returns-in-Histories-clause-taken
returns-in-Histories-clause-taken c = λ done. record {
  was = c.in-Histories.judged;
  is = c.add_access.new.judged;
  before = ap Some c.in-Histories.is;
  after = refl;
  adds = c.add_access.ensures.taken done;
}
