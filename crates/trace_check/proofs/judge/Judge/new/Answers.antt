use Rattle.trace_check.proofs.VerdictLemmas.{knows-nothing}
use Rattle.trace_check.proofs.judge.Judge.new.Goals as goal

pub returns : goal.returns
returns c = knows-nothing _ c.new.ensures.items c.new-2.ensures
