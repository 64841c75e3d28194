use Rattle.trace_check.proofs.ReadingLemmas.{one_judgement}
use Rattle.trace_check.proofs.check.one_judgement.Goals as goal

pub returns : goal.returns
returns c = one_judgement
