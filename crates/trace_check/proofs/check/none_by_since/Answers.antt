use Rattle.trace_check.proofs.SinceLemmas.{none_by_since}
use Rattle.trace_check.proofs.check.none_by_since.Goals as goal

pub returns : goal.returns
returns c = λ text init entries k trace is. none_by_since trace.rest init entries _ k trace.goes_on.written is
