use Rattle.trace_check.proofs.ExactLemmas.{one_verdict}
use Rattle.trace_check.proofs.judge.one_verdict.Goals as goal

pub returns : goal.returns
returns c = one_verdict
