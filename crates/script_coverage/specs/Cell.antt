-- The cell that a step met: the state and the event of its case, and what was decided or planned.
use Rattle.std.specs.Prelude.{Option, None, Some}
use Rattle.std.specs.Option.{option_map}
use Rattle.cache_table.specs.declared.state.CopyState.{CopyState}
use Rattle.script_coverage.specs.declared.table_cell.Cell.{Cell}
use Rattle.script_coverage.specs.declared.table_cell.Outcome.{Outcome}
use Rattle.script_coverage.specs.declared.table_cell.Outcome.TheVariants as outcomes
use Rattle.script_coverage.specs.declared.table_cell.TableEvent.{TableEvent}
use Rattle.script_coverage.specs.declared.table_cell.TableEvent.TheVariants as table_events
use Rattle.script_coverage.specs.declared.table_cell.TableState.{TableState}
use Rattle.script_coverage.specs.declared.table_cell.TableState.TheVariants as table_states
use Rattle.script_explained.specs.declared.step.Step.{Step}
use Rattle.script_explained.specs.declared.step.Step.TheVariants as steps
use Rattle.slice_answer.specs.declared.answer.Delivery.{Delivery}
use Rattle.slice_answer.specs.declared.answer.Delivery.TheVariants as deliveries
use Rattle.slice_answer.specs.declared.answer.Evicted.{Evicted}
use Rattle.slice_answer.specs.declared.answer.Evicted.TheVariants as evictions
use Rattle.slice_answer.specs.declared.answer.Stall.TheVariants as stalls
use Rattle.slice_core_cache.specs.declared.access.AccessKind.{AccessKind}
use Rattle.slice_core_cache.specs.declared.access.AccessKind.TheVariants as access_kinds
use Rattle.slice_core_spec.specs.declared.decision.Decision.{Decision}
use Rattle.slice_core_spec.specs.declared.decision.Decision.TheVariants as decisions
use Rattle.slice_core_spec.specs.declared.transition.Transition.{Transition}
use Rattle.slice_core_spec.specs.declared.transition.Transition.TheVariants as transitions
use Rattle.slice_queues.specs.declared.message.DataMessage.TheVariants as data_messages
use Rattle.slice_queues.specs.declared.message.ForwardedMessage.TheVariants as forwarded_messages
use Rattle.slice_queues.specs.declared.message.Message.{Message}
use Rattle.slice_queues.specs.declared.message.Message.TheVariants as messages
use Rattle.slice_queues.specs.declared.message.RequestMessage.TheVariants as request_messages
use Rattle.slice_text.specs.declared.step.case.Case.{Case}
use Rattle.slice_text.specs.declared.step.case.Event.{Event}
use Rattle.slice_text.specs.declared.step.case.Event.TheVariants as events
use Rattle.slice_text.specs.declared.step.case.Who.{Who}
use Rattle.slice_text.specs.declared.step.case.Who.TheVariants as whos
use Rattle.slice_text.specs.declared.step.delivery.ExplainedDelivery.{ExplainedDelivery}

-- ---- the case

abbrev pub state_of : Who → TableState
state_of (whos.Directory slice state) = table_states.Directory state
state_of (whos.Core core state) = table_states.Cache state

abbrev pub event_of_message : Message → TableEvent
event_of_message (messages.Request request_messages.GetS) = table_events.GetS
event_of_message (messages.Request request_messages.GetM) = table_events.GetM
event_of_message (messages.Request request_messages.PutS) = table_events.PutS
event_of_message (messages.Request (request_messages.PutM block)) = table_events.PutM
event_of_message (messages.Forwarded (forwarded_messages.FwdGetS requester)) = table_events.FwdGetS
event_of_message (messages.Forwarded (forwarded_messages.FwdGetM requester)) = table_events.FwdGetM
event_of_message (messages.Forwarded (forwarded_messages.Inv requester)) = table_events.Inv
event_of_message (messages.Forwarded forwarded_messages.PutAck) = table_events.PutAck
event_of_message (messages.Data (data_messages.Data block acks)) = table_events.Data
event_of_message (messages.Data (data_messages.DataE block)) = table_events.DataE
event_of_message messages.InvAck = table_events.InvAck
event_of_message (messages.Home block) = table_events.DataHome

abbrev pub event_of : Event → TableEvent
event_of (events.Message message) = event_of_message message
event_of events.Load = table_events.Load
event_of events.Write = table_events.Write
event_of events.Eviction = table_events.Eviction

-- ---- what follows

-- the state to which a row leads
abbrev pub state_after : Transition → TableState
state_after (transitions.Directory step) = table_states.Directory step.state
state_after (transitions.Home step) = table_states.Directory step.state
state_after (transitions.Forwarded step) = table_states.Cache step.next
state_after (transitions.Fill step) = table_states.Cache step.next
state_after (transitions.Acknowledge step) = table_states.Cache step.next

-- what is planned for a message
abbrev pub outcome_of_plan : Delivery Transition → Option Outcome
outcome_of_plan (deliveries.Moved transition) = Some (outcomes.To (state_after transition))
outcome_of_plan deliveries.Blocked = Some outcomes.Blocked
outcome_of_plan plan = None

-- What an access does. One that stalls for lack of room meets no cell: it never comes to the table.
abbrev pub outcome_of_access : AccessKind → Option Outcome
outcome_of_access (access_kinds.Hit way next silent) = Some (outcomes.To (table_states.Cache next))
outcome_of_access (access_kinds.PrimaryMiss next ask placement) = Some (outcomes.To (table_states.Cache next))
outcome_of_access access_kinds.SecondaryMiss = Some outcomes.Joins
outcome_of_access (access_kinds.Stall stalls.WriteBackBusy) = Some outcomes.Stalls
outcome_of_access access = None

-- .. nor does a request that is refused
abbrev pub outcome_of_decision : Decision → Option Outcome
outcome_of_decision (decisions.Access local access) = outcome_of_access access
outcome_of_decision (decisions.Refuse refused) = None

-- what became of an eviction, after which the copy is in this state
abbrev pub outcome_of_eviction : Evicted → CopyState → Option Outcome
outcome_of_eviction evictions.Evicting state = Some (outcomes.To (table_states.Cache state))
outcome_of_eviction evictions.NotHeld state = Some outcomes.NotHeld
outcome_of_eviction evictions.Busy state = Some outcomes.Busy
outcome_of_eviction evictions.WriteBackFull state = None

-- ---- the cell

abbrev pub cell_at : Case → Option Outcome → Option Cell
cell_at case outcome =
    option_map (λ follows. record { state = state_of case.who; event = event_of case.event; outcome = follows }) outcome

-- of a delivery, where a message waited
abbrev pub cell_of_delivery : Option ExplainedDelivery → Option Cell
cell_of_delivery None = None
cell_of_delivery (Some delivery) = cell_at delivery.case (outcome_of_plan delivery.plan)

-- of a step: one at most
abbrev pub cell_of : Step → Option Cell
cell_of (steps.Issue access) = cell_at access.decided.case (outcome_of_decision access.decided.decision)
cell_of (steps.Evict step) = cell_at step.eviction.case (outcome_of_eviction step.eviction.answer step.eviction.state)
cell_of (steps.Deliver delivery) = cell_of_delivery delivery.told
cell_of step = None
