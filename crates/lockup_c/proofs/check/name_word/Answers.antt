use Rattle.std.proofs.Common.{Some, ap, refl}
use Rattle.lockup_c.proofs.check.name_word.Goals as goal

pub returns-in-Trace-clause-named : goal.returns-in-Trace-clause-named
returns-in-Trace-clause-named c = λ done. record {
  was = c.in-Trace.judge;
  is = c.add_word.new.judge;
  before = ap Some c.in-Trace.is;
  after = refl;
  adds = c.add_word.ensures.named done;
}
