use Rattle.std.proofs.Common.{ap}
use Rattle.std.specs.Prelude.{option_map}
use Rattle.murphi_trace.specs.Rule.{acknowledged_to, rule_at}
use Rattle.murphi_trace.proofs.rule.acknowledged.Goals as goal

pub returns-in_default-clause-value : goal.returns-in_default-clause-value
unfolding rule_at
returns-in_default-clause-value c = ap (option_map (acknowledged_to c.args.to)) c.in_default.ensures.value

pub returns-clause-value : goal.returns-clause-value
unfolding rule_at
returns-clause-value c = ap (option_map (acknowledged_to c.args.to)) c.in-Some.ensures.value
