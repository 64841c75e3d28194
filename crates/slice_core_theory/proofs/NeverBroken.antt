-- No delivery of a slice whose lines the machine reaches returns that a message is broken.
use Rattle.std.proofs.Common.{◌≡◌, ◌≢◌, Option, Some, None, refl, sym, ap, ◌∙◌}
use Rattle.address_map.specs.Locator.{local_at}
use Rattle.address_map.specs.declared.address.Local.{Local}
use Rattle.slice_answer.specs.declared.answer.Cell.{Cell}
use Rattle.slice_answer.specs.declared.answer.Delivered.{Delivered}
use Rattle.slice_answer.specs.declared.answer.Delivered.TheVariants as delivered
use Rattle.slice_core_theory.proofs.KeptByCalls.{located}
use Rattle.slice_core_theory.specs.Coherent.{NothingIsBroken}
use Rattle.slice_core_spec.specs.Calls.{AfterDeliverNext, AfterDelivery, AfterPlan, PartsView, local_in}
use Rattle.slice_core_spec.specs.Plan.{plan_of, planned_in}
use Rattle.slice_queues.specs.Pick.{channel_of, line_of}
use Rattle.slice_queues.specs.declared.channel.Channel.{Channel}
use Rattle.slice_queues.specs.declared.channel.Class.{Class}
use Rattle.slice_queues.specs.declared.channel.Pick.{Pick}
use Rattle.slice_answer.specs.declared.answer.Delivery.TheVariants as deliveries
use Rattle.slice_answer.specs.declared.answer.Delivery.{Delivery}
use Rattle.slice_core_spec.specs.declared.transition.Transition.{Transition}

module _ (old new : PartsView) (unbroken : NothingIsBroken old.view) (cell : Cell) where
  by_plan : (local : Local) (channel : Channel) (answer : Delivered) (plan : Delivery Transition) → plan ≢ deliveries.Broken cell
      → AfterPlan plan old local channel answer new → answer ≢ delivered.Broken cell
  by_plan local channel answer deliveries.Nothing whole after is = absurd (cc (sym after.0 ∙ is))
  by_plan local channel answer deliveries.Blocked whole after is = absurd (cc (sym after.0 ∙ is))
  by_plan local channel answer (deliveries.Broken other) whole after is =
      whole (ap (λ d. deliveries.Broken (cell_in d)) (sym after.0 ∙ is))
    where
      cell_in : Delivered → Cell
      cell_in (delivered.Broken c) = c
      cell_in _ = cell
  by_plan local channel answer (deliveries.Moved step) whole after is =
      absurd (cc (sym after.0 ∙ is))

  -- A delivery that was picked is not broken.
  pub delivery_unbroken : (pick : Pick) (answer : Delivered) → AfterDelivery old pick answer new
      → answer ≢ delivered.Broken cell
  delivery_unbroken pick answer after = by (local_at old.view.lines (line_of pick).0) refl after
    where
      by_line : Option Local → Type 0
      by_line place =
          AfterPlan (planned_in old.view place (channel_of pick)) old (local_in place) (channel_of pick) answer new

      by : (place : Option Local) → local_at old.view.lines (line_of pick).0 ≡ place → by_line place
          → answer ≢ delivered.Broken cell
      by None found after is = absurd (cc (sym after.0 ∙ is))
      by (Some local) found after is =
          by_plan local (channel_of pick) answer (plan_of old.view local (channel_of pick))
          (unbroken local (channel_of pick) cell (located old.view.lines (line_of pick).0 local found)) after is

  -- Nor is the next of a class.
  pub next_unbroken : (class : Class) (answer : Delivery Pick) → AfterDeliverNext old class answer new
      → answer ≢ deliveries.Broken cell
  next_unbroken class (deliveries.Moved pick) after is = absurd (cc is)
  next_unbroken class deliveries.Nothing after is = absurd (cc is)
  next_unbroken class deliveries.Blocked after is = absurd (cc is)
  next_unbroken class (deliveries.Broken other) after is =
      let some = after.found.1 in unbroken some.0 some.1 other some.2 some.4
