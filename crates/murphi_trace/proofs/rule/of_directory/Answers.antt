use Rattle.murphi_trace.specs.Rule.{behind_entry, directory_rule, event_in}
use Rattle.murphi_trace.proofs.PartLemmas.{from_none, from_some}
use Rattle.murphi_trace.proofs.rule.of_directory.Goals as goal

pub returns-in_default-clause-value : goal.returns-in_default-clause-value
unfolding directory_rule
returns-in_default-clause-value c = from_none event_in _ (from_none behind_entry _ c.in_default.ensures)

pub returns-in_default-parted-clause-value : goal.returns-in_default-parted-clause-value
unfolding directory_rule
returns-in_default-parted-clause-value c =
    from_none event_in _ (from_some behind_entry _ _ _ c.in-Some.ensures c.in_default-parted.ensures)

pub returns-clause-value : goal.returns-clause-value
unfolding directory_rule
returns-clause-value c =
    from_some event_in _ _ _ (from_some behind_entry _ _ _ c.in-Some.ensures c.in-Some-parted.ensures)
    c.at_directory.ensures.value
