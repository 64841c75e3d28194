-- A message that is taken leaves the slice's lines reached, whichever it is; and so does a call that takes none.
use Rattle.std.proofs.Common.{arith}
use Rattle.slice_answer.specs.declared.answer.Delivered.{Delivered}
use Rattle.slice_core_theory.proofs.Directory.{reached_directory}
use Rattle.slice_core_theory.proofs.Forwarded.{forwarded_reached}
use Rattle.slice_core_theory.proofs.Home.{reached_home}
use Rattle.slice_core_theory.proofs.KeptByDeliveries.{deliver_next_keeps, delivery_keeps}
use Rattle.slice_core_theory.proofs.Settling.{count_reached, fill_reached}
use Rattle.slice_core_theory.proofs.Steps.{KeepsMessages}
use Rattle.slice_core_theory.specs.Stands.{AreReached}
use Rattle.slice_core_theory.specs.Whole.{IsWhole}
use Rattle.slice_core_spec.specs.Calls.{PartsView, AfterDeliverNext, AfterDelivery}
use Rattle.slice_queues.specs.declared.channel.Class.{Class}
use Rattle.slice_queues.specs.declared.channel.Pick.{Pick}
use Rattle.slice_answer.specs.declared.answer.Delivery.{Delivery}

messages_keep : KeepsMessages IsWhole AreReached
messages_keep = record {
  directory = λ v local core step whole inside there is all.
      reached_directory v local whole.shaped inside whole.few core there step is all;
  home = λ v local state owner sharers whole inside is all.
      reached_home v local whole.shaped inside state owner sharers is all;
  forwarded = λ v local core next sent requester whole inside there copy is all.
      forwarded_reached v local core next sent requester (omega (arith, there)) whole.few whole.shaped
      (whole.kept core there) there inside copy is all;
  filling = λ v local core place next misses whole inside there is takes all.
      fill_reached v local core (omega (arith, there)) whole.few whole.shaped (whole.kept core there) there inside
      place next is misses all;
  counting = λ v local core from place next misses whole inside there is takes all.
      count_reached v local core (omega (arith, there)) whole.few whole.shaped (whole.kept core there) there inside
      from place next is misses all;
}

-- A delivery of a chosen message leaves each line reached.
pub reached_delivery : (old new : PartsView) → IsWhole old.view → AreReached old.view → (pick : Pick)
    (answer : Delivered) → AfterDelivery old pick answer new → AreReached new.view
reached_delivery old new whole all pick answer =
    delivery_keeps IsWhole AreReached messages_keep old new whole whole all pick answer

-- So does one of the next message of a class.
pub reached_deliver_next : (old new : PartsView) → IsWhole old.view → AreReached old.view → (class : Class)
    (answer : Delivery Pick) → AfterDeliverNext old class answer new → AreReached new.view
reached_deliver_next old new whole all class answer =
    deliver_next_keeps IsWhole AreReached messages_keep old new whole whole all class answer
