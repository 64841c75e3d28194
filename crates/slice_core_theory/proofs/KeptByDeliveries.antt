-- What each message that is taken keeps is kept by each delivery, and by one that takes none.
use Rattle.std.proofs.Common.{◌≡◌, ℕ, ◌<◌, Option, Some, None, refl, sym, ap, ◌∙◌, subst}
use Rattle.address_map.specs.Locator.{local_at}
use Rattle.address_map.specs.declared.address.CoreId.{CoreId}
use Rattle.address_map.specs.declared.address.Local.{Local}
use Rattle.cache_table.specs.declared.row.CacheSends.{CacheSends}
use Rattle.cache_table.specs.declared.state.CopyState.{CopyState}
use Rattle.directory_table.specs.declared.row.DirStep.{DirStep}
use Rattle.directory_table.specs.declared.state.DirState.{DirState}
use Rattle.slice_answer.specs.declared.answer.Delivered.{Delivered}
use Rattle.slice_answer.specs.declared.answer.Delivered.TheVariants as delivered
use Rattle.slice_core_theory.proofs.KeptByCalls.{located}
use Rattle.slice_core_theory.proofs.Planned.{IsFor, is_for}
use Rattle.slice_core_theory.proofs.Steps.{KeepsMessages}
use Rattle.slice_core_theory.specs.Whole.{IsWhole}
use Rattle.slice_core_spec.specs.Calls.{AfterDeliverNext, AfterDelivery, AfterPlan, IsDone, PartsView, local_in}
use Rattle.slice_core_spec.specs.Plan.{plan_of, planned_in}
use Rattle.slice_core_spec.specs.View.{View}
use Rattle.slice_queues.specs.Pick.{channel_of, line_of}
use Rattle.slice_queues.specs.declared.channel.Channel.{Channel}
use Rattle.slice_queues.specs.declared.channel.Channel.TheVariants as channels
use Rattle.slice_queues.specs.declared.channel.Class.{Class}
use Rattle.slice_queues.specs.declared.channel.Pick.{Pick}
use Rattle.slice_answer.specs.declared.answer.Delivery.TheVariants as deliveries
use Rattle.slice_answer.specs.declared.answer.Delivery.{Delivery}
use Rattle.slice_core_spec.specs.Plan.{ack_move, directory_move, fill_move, forwarded_move, home_move}
use Rattle.slice_core_spec.specs.declared.transition.Transition.TheVariants as transitions
use Rattle.slice_core_spec.specs.declared.transition.Transition.{Transition}

module _ (Whole Fact : View → Type 0) (steps : KeepsMessages Whole Fact) (old : PartsView) (local : Local)
    (answer : Delivered) (new : PartsView) (whole : IsWhole old.view) (more : Whole old.view)
    (inside : local.0 < old.view.lines.lines) (all : Fact old.view) where
  -- the slice's view is this one
  seen : (view : View) (after : PartsView) → new ≡ after → after.view ≡ view → Fact view → Fact new.view
  seen view after is same reached = subst Fact (sym (ap (λ (p : PartsView). p.view) is ∙ same)) reached

  planned : (channel : Channel) (plan : Delivery Transition) → plan_of old.view local channel ≡ plan
      → IsFor old.view channel local plan
  planned = is_for old.view local whole.shaped inside

  taken_request : (step : DirStep) (channel : Channel) → plan_of old.view local channel ≡ directory_move step
      → AfterPlan (directory_move step) old local channel answer new → Fact new.view
  taken_request step (channels.Req core) is after =
      seen _ _ after.1 refl
      (steps.directory old.view local core step more inside (planned (channels.Req core) _ is) is all)
  taken_request step (channels.Fwd core) is after = absurd (planned (channels.Fwd core) _ is)
  taken_request step (channels.Data core) is after = absurd (planned (channels.Data core) _ is)
  taken_request step (channels.Ack to from) is after = absurd (planned (channels.Ack to from) _ is)
  taken_request step channels.Home is after = absurd (planned channels.Home _ is)

  taken_home : (state : DirState) (owner : Option CoreId) (sharers : ℕ) (channel : Channel)
      → plan_of old.view local channel ≡ home_move state owner sharers
      → AfterPlan (home_move state owner sharers) old local channel answer new → Fact new.view
  taken_home state owner sharers channels.Home is after =
      seen _ _ after.1 refl (steps.home old.view local state owner sharers more inside is all)
  taken_home state owner sharers (channels.Req core) is after = absurd (planned (channels.Req core) _ is)
  taken_home state owner sharers (channels.Fwd core) is after = absurd (planned (channels.Fwd core) _ is)
  taken_home state owner sharers (channels.Data core) is after = absurd (planned (channels.Data core) _ is)
  taken_home state owner sharers (channels.Ack to from) is after = absurd (planned (channels.Ack to from) _ is)

  taken_forwarded : (next : CopyState) (sent : CacheSends) (requester : CoreId) (channel : Channel)
      → plan_of old.view local channel ≡ forwarded_move next sent requester
      → AfterPlan (forwarded_move next sent requester) old local channel answer new → Fact new.view
  taken_forwarded next sent requester (channels.Fwd core) is after =
      let for = planned (channels.Fwd core) _ is in
      seen _ _ after.1 refl
      (steps.forwarded old.view local core next sent requester more inside for.0 for.1 is all)
  taken_forwarded next sent requester (channels.Req core) is after = absurd (planned (channels.Req core) _ is)
  taken_forwarded next sent requester (channels.Data core) is after = absurd (planned (channels.Data core) _ is)
  taken_forwarded next sent requester (channels.Ack to from) is after = absurd (planned (channels.Ack to from) _ is)
  taken_forwarded next sent requester channels.Home is after = absurd (planned channels.Home _ is)

  taken_data : (way : ℕ) (next : CopyState) (channel : Channel)
      → plan_of old.view local channel ≡ fill_move way next
      → AfterPlan (fill_move way next) old local channel answer new → Fact new.view
  taken_data way next (channels.Data core) is after =
      let there = planned (channels.Data core) _ is in
      seen _ _ after.1.3 refl
      (steps.filling old.view local core way next after.1.0 more inside there is after.1.1 all)
  taken_data way next (channels.Req core) is after = absurd (planned (channels.Req core) _ is)
  taken_data way next (channels.Fwd core) is after = absurd (planned (channels.Fwd core) _ is)
  taken_data way next (channels.Ack to from) is after = absurd (planned (channels.Ack to from) _ is)
  taken_data way next channels.Home is after = absurd (planned channels.Home _ is)

  taken_ack : (way : ℕ) (next : CopyState) (channel : Channel)
      → plan_of old.view local channel ≡ ack_move way next
      → AfterPlan (ack_move way next) old local channel answer new → Fact new.view
  taken_ack way next (channels.Ack to from) is after =
      let there = planned (channels.Ack to from) _ is in
      seen _ _ after.1.3 refl
      (steps.counting old.view local to from way next after.1.0 more inside there is after.1.1 all)
  taken_ack way next (channels.Req core) is after = absurd (planned (channels.Req core) _ is)
  taken_ack way next (channels.Fwd core) is after = absurd (planned (channels.Fwd core) _ is)
  taken_ack way next (channels.Data core) is after = absurd (planned (channels.Data core) _ is)
  taken_ack way next channels.Home is after = absurd (planned channels.Home _ is)

  -- What is planned at a channel keeps the fact.
  pub planned_keeps : (plan : Delivery Transition) (channel : Channel) → plan_of old.view local channel ≡ plan
      → AfterPlan plan old local channel answer new → Fact new.view
  planned_keeps deliveries.Nothing channel is after = seen _ _ after.1 refl all
  planned_keeps deliveries.Blocked channel is after = seen _ _ after.1 refl all
  planned_keeps (deliveries.Broken cell) channel is after = seen _ _ after.1 refl all
  planned_keeps (deliveries.Moved (transitions.Directory step)) channel is after = taken_request step channel is after
  planned_keeps (deliveries.Moved (transitions.Home step)) channel is after = taken_home step.state step.owner step.sharers channel is after
  planned_keeps (deliveries.Moved (transitions.Forwarded step)) channel is after =
      taken_forwarded step.next step.sends step.requester channel is after
  planned_keeps (deliveries.Moved (transitions.Fill step)) channel is after =
      taken_data step.way step.next channel is after
  planned_keeps (deliveries.Moved (transitions.Acknowledge step)) channel is after =
      taken_ack step.way step.next channel is after

-- ---- the calls

module _ (Whole Fact : View → Type 0) (steps : KeepsMessages Whole Fact) (old new : PartsView)
    (whole : IsWhole old.view) (more : Whole old.view) (all : Fact old.view) where
  unchanged : new ≡ old → Fact new.view
  unchanged same = subst (λ (p : PartsView). Fact p.view) (sym same) all

  -- what a delivery returns and leaves, by the line's place
  abbrev by_line : Pick → Delivered → Option Local → Type 0
  by_line pick answer place =
      AfterPlan (planned_in old.view place (channel_of pick)) old (local_in place) (channel_of pick) answer new

  at_place : (pick : Pick) (answer : Delivered) (place : Option Local)
      → local_at old.view.lines (line_of pick).0 ≡ place → by_line pick answer place → Fact new.view
  at_place pick answer None is after = unchanged after.1
  at_place pick answer (Some local) is after =
      planned_keeps Whole Fact steps old local answer new whole more (located old.view.lines (line_of pick).0 local
      is) all
      (plan_of old.view local (channel_of pick)) (channel_of pick) refl after

  -- A delivery of a chosen message keeps the fact.
  pub delivery_keeps : (pick : Pick) (answer : Delivered) → AfterDelivery old pick answer new → Fact new.view
  delivery_keeps pick answer after = at_place pick answer (local_at old.view.lines (line_of pick).0) refl after

  -- So does what is done of the next message of a class, ..
  pub done_keeps : (answer : Delivery Pick) → IsDone old answer new → Fact new.view
  done_keeps (deliveries.Moved pick) done = delivery_keeps pick delivered.Moved done
  done_keeps deliveries.Nothing done = unchanged done
  done_keeps deliveries.Blocked done = unchanged done
  done_keeps (deliveries.Broken cell) done = unchanged done

-- .. and the turn of the ring after it.
pub deliver_next_keeps : (Whole Fact : View → Type 0) (steps : KeepsMessages Whole Fact) (old new : PartsView)
    → IsWhole old.view → Whole old.view → Fact old.view → (class : Class) (answer : Delivery Pick)
    → AfterDeliverNext old class answer new → Fact new.view
deliver_next_keeps Whole Fact steps old new whole more all class answer after =
    subst (λ (p : PartsView). Fact p.view) (sym after.turns)
    (done_keeps Whole Fact steps old after.done whole more all answer after.made)
