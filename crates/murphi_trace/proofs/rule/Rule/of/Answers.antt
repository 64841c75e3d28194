use Rattle.std.proofs.Common.{ap, ◌∙◌}
use Rattle.murphi_trace.specs.Fired.{name_and_cores}
use Rattle.murphi_trace.specs.Rule.{rule_called, rule_of}
use Rattle.murphi_trace.proofs.rule.Rule.of.Goals as goal

pub returns-in-Some-clause-value : goal.returns-in-Some-clause-value
unfolding rule_of
returns-in-Some-clause-value c =
    c.of_directory.ensures.value ∙ ap (rule_called (name_and_cores c.args.fired)) c.in-Some.ensures

pub returns-in-None-clause-value : goal.returns-in-None-clause-value
unfolding rule_of
returns-in-None-clause-value c =
    c.of_core.ensures.value ∙ ap (rule_called (name_and_cores c.args.fired)) c.in-None.ensures
