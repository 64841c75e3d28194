use Rattle.std.proofs.Common.{Some, ap, refl}
use Rattle.lockup_c.proofs.check.take_entry.Goals as goal

pub returns-in-Trace-clause-taken : goal.returns-in-Trace-clause-taken
returns-in-Trace-clause-taken c = λ done. record {
  was = c.in-Trace.judge;
  is = c.add_entry.new.judge;
  before = ap Some c.in-Trace.is;
  after = refl;
  adds = c.add_entry.ensures.taken done;
}
