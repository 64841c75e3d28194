use Rattle.murphi_trace.specs.Rule.{copy_rule, rule_at, rule_for}
use Rattle.murphi_trace.proofs.PartLemmas.{from_none, from_some}
use Rattle.murphi_trace.proofs.rule.of_core.Goals as goal

pub returns-in_default-clause-value : goal.returns-in_default-clause-value
unfolding copy_rule
returns-in_default-clause-value c = from_none (rule_for c.args.fired.cores.now) _ c.in_default.ensures

pub returns-in_default-core_behind-clause-value : goal.returns-in_default-core_behind-clause-value
unfolding copy_rule
returns-in_default-core_behind-clause-value c =
    from_some (rule_for c.args.fired.cores.now) _ _ _ c.in-Some.ensures
    (from_none (rule_at c.args.fired.cores.now c.in-Some.event) _ c.in_default-core_behind.ensures.value)

pub returns-clause-value : goal.returns-clause-value
unfolding copy_rule
returns-clause-value c =
    from_some (rule_for c.args.fired.cores.now) _ _ _ c.in-Some.ensures
    (from_some (rule_at c.args.fired.cores.now c.in-Some.event) _ _ _ c.in-Some-core_behind.ensures.value
    c.at_core.ensures.value)
