-- What a delivery does, by what is planned.
use Rattle.std.specs.Prelude.{ℕ, List, ◌++◌, codes}
use Rattle.address_map.specs.declared.address.CoreId.{CoreId}
use Rattle.cache_table.specs.Name.{name_of as name_of_copy}
use Rattle.slice_text.specs.Case.{text_of_case}
use Rattle.slice_text.specs.Effects.{text_of_asked, text_of_awaited, text_of_broken, text_of_cache_sends}
use Rattle.slice_text.specs.Effects.{text_of_dir_sends, text_of_entry, text_of_home, text_of_numbers}
use Rattle.slice_text.specs.declared.step.effects.Done.{Done}
use Rattle.slice_text.specs.declared.step.delivery.ExplainedDelivery.{ExplainedDelivery}
use Rattle.slice_answer.specs.declared.answer.Delivery.TheVariants as deliveries
use Rattle.slice_answer.specs.declared.answer.Delivery.{Delivery}
use Rattle.slice_core_spec.specs.declared.transition.Transition.TheVariants as transitions
use Rattle.slice_core_spec.specs.declared.transition.Transition.{Transition}

-- a message that is moved: the state that follows, and what else is done
abbrev pub text_of_transition : ℕ → CoreId → Done → Transition → List ℕ
text_of_transition slice core done (transitions.Directory step) =
    text_of_entry step.state step.owner step.sharers ++ text_of_dir_sends core step.sends ++ text_of_home step.writes_home
text_of_transition slice core done (transitions.Home step) =
    text_of_entry step.state step.owner step.sharers ++ codes "; block home"
text_of_transition slice core done (transitions.Forwarded step) =
    name_of_copy step.next ++ text_of_cache_sends slice step.requester step.sends
text_of_transition slice core done (transitions.Fill step) =
    name_of_copy step.next ++ text_of_numbers done.first done.end ++ text_of_asked slice done.asked done.state
text_of_transition slice core done (transitions.Acknowledge step) =
    name_of_copy step.next ++ codes "; k + 1" ++ text_of_numbers done.first done.end

-- what is planned for a message, and what was done of it
abbrev pub text_of_plan : ExplainedDelivery → Delivery Transition → List ℕ
text_of_plan delivery deliveries.Nothing = codes "nothing"
text_of_plan delivery deliveries.Blocked = codes "waits for " ++ text_of_awaited delivery.case.who
text_of_plan delivery (deliveries.Broken cell) = text_of_broken cell
text_of_plan delivery (deliveries.Moved transition) =
    codes "to " ++ text_of_transition delivery.slice delivery.core delivery.done transition

abbrev pub text_of_effects : ExplainedDelivery → List ℕ
text_of_effects delivery = text_of_plan delivery delivery.plan

-- the case that the message meets, and what is done
abbrev pub text_of_delivery : ExplainedDelivery → List ℕ
text_of_delivery delivery = text_of_case delivery.case ++ codes ": " ++ text_of_effects delivery
