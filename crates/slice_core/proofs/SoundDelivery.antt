-- The whole invariant holds after a delivery.
use Rattle.slice_answer.specs.declared.answer.Delivered.{Delivered}
use Rattle.slice_core_theory.proofs.BlocksDeliveries.{faithful_deliver_next, faithful_delivery}
use Rattle.slice_core_theory.proofs.KeptByDeliveries.{deliver_next_keeps, delivery_keeps}
use Rattle.slice_core_theory.specs.Whole.{IsWhole}
use Rattle.slice_core_spec.specs.Calls.{PartsView, AfterDeliverNext, AfterDelivery}
use Rattle.slice_core.proofs.AccountsDelivery.{keeps-deliver_next, keeps-delivery}
use Rattle.slice_core.proofs.AccountsKept.{sound-from_keeps}
use Rattle.slice_core.proofs.Coherent.{addressed, whole}
use Rattle.slice_core.proofs.LinksSteps.{links_messages}
use Rattle.slice_core.specs.Sound.{HasLinks, IsSound}
use Rattle.slice_queues.specs.declared.channel.Class.{Class}
use Rattle.slice_queues.specs.declared.channel.Pick.{Pick}
use Rattle.slice_answer.specs.declared.answer.Delivery.{Delivery}

module _ (old : PartsView) (sound : IsSound old) (new : PartsView) where
  -- A delivery of a chosen message keeps the invariant.
  pub sound-delivery : (pick : Pick) (answer : Delivered) → AfterDelivery old pick answer new → IsSound new
  sound-delivery pick answer after =
      let known = whole old sound in
      sound-from_keeps new (keeps-delivery old sound new pick answer after)
      (delivery_keeps IsWhole HasLinks links_messages old new known known sound.links pick answer after)
      (faithful_delivery old new known (addressed old sound) sound.faithful pick answer after)

  -- So does one of the next message of a class.
  pub sound-deliver_next : (class : Class) (answer : Delivery Pick) → AfterDeliverNext old class answer new
      → IsSound new
  sound-deliver_next class answer after =
      let known = whole old sound in
      sound-from_keeps new (keeps-deliver_next old sound new class answer after)
      (deliver_next_keeps IsWhole HasLinks links_messages old new known known sound.links class answer after)
      (faithful_deliver_next old new known (addressed old sound) sound.faithful class answer after)
