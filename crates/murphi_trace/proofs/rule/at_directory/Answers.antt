use Rattle.std.proofs.Common.{ap, ◌∙◌}
use Rattle.std.specs.Prelude.{option_map}
use Rattle.murphi_trace.specs.Rule.{directory_event, request_of, request_or_home}
use Rattle.murphi_trace.proofs.rule.at_directory.Goals as goal

pub returns-in_default-clause-value : goal.returns-in_default-clause-value
unfolding directory_event
returns-in_default-clause-value c = ap request_or_home c.in_default.ensures

pub returns-in_default-core_of-clause-value : goal.returns-in_default-core_of-clause-value
unfolding directory_event
returns-in_default-core_of-clause-value c =
    ap (option_map request_of) c.in_default-core_of.ensures.value ∙ ap request_or_home c.in-Some.ensures

pub returns-clause-value : goal.returns-clause-value
unfolding directory_event
returns-clause-value c =
    ap (option_map request_of) c.in-Some-core_of.ensures.value ∙ ap request_or_home c.in-Some.ensures
