use Rattle.std.proofs.Common.{ap, ◌∙◌}
use Rattle.litmus_text.specs.Table.{value_named}
use Rattle.murphi_trace.specs.Rule.{behind_state, event_called, event_of, events_by_name}
use Rattle.murphi_trace.proofs.PartLemmas.{from_none, from_some}
use Rattle.murphi_trace.proofs.event.Event.of.Goals as goal

pub returns-in_default : goal.returns-in_default
unfolding event_of
returns-in_default c = from_none event_called _ (from_none behind_state _ c.in_default.ensures)

pub returns-in_default-parted : goal.returns-in_default-parted
unfolding event_of
returns-in_default-parted c =
    from_none event_called _ (from_some behind_state _ _ _ c.in-Some.ensures c.in_default-parted.ensures)

pub returns : goal.returns
unfolding event_of
returns c =
    from_some event_called _ _ _ (from_some behind_state _ _ _ c.in-Some.ensures c.in-Some-parted.ensures)
    (c.named.ensures ∙ ap (value_named events_by_name) c.first_part.ensures)
