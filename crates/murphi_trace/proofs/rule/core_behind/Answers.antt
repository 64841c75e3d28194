use Rattle.murphi_trace.specs.Rule.{core_behind, core_in}
use Rattle.murphi_trace.proofs.PartLemmas.{from_none, from_some}
use Rattle.murphi_trace.proofs.rule.core_behind.Goals as goal

pub returns-in_default-clause-value : goal.returns-in_default-clause-value
unfolding core_behind
returns-in_default-clause-value c = from_none core_in _ c.in_default.ensures

pub returns-clause-value : goal.returns-clause-value
unfolding core_behind
returns-clause-value c = from_some core_in _ _ _ c.in-Some.ensures c.core_of.ensures.value
