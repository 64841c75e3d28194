-- A message that is taken leaves the slice's lines reached, blocks and all, and the log legal.
use Rattle.std.proofs.Common.{arith}
use Rattle.slice_answer.specs.declared.answer.Delivered.{Delivered}
use Rattle.slice_core_theory.proofs.BlocksCalls.{Known}
use Rattle.slice_core_theory.proofs.BlocksDirectory.{directory_keeps}
use Rattle.slice_core_theory.proofs.BlocksForwarded.{forwarded_keeps}
use Rattle.slice_core_theory.proofs.BlocksHome.{home_keeps}
use Rattle.slice_core_theory.proofs.BlocksSettling.{count_keeps, count_legal, fill_keeps, fill_legal}
use Rattle.slice_core_theory.proofs.KeptByDeliveries.{deliver_next_keeps, delivery_keeps}
use Rattle.slice_core_theory.proofs.Steps.{KeepsMessages}
use Rattle.slice_core_theory.specs.Newest.{IsFaithful}
use Rattle.slice_core_theory.specs.Whole.{IsAddressed, IsWhole}
use Rattle.slice_core_spec.specs.Calls.{PartsView, AfterDeliverNext, AfterDelivery}
use Rattle.slice_queues.specs.declared.channel.Class.{Class}
use Rattle.slice_queues.specs.declared.channel.Pick.{Pick}
use Rattle.slice_answer.specs.declared.answer.Delivery.{Delivery}

messages_keep : KeepsMessages Known IsFaithful
messages_keep = record {
  directory = λ v local core step known inside there is all. record {
    reached = directory_keeps v local known.0.shaped inside known.0.few core there step is
        all.reached;
    legal = all.legal;
  };
  home = λ v local state owner sharers known inside is all. record {
    reached = home_keeps v local known.0.shaped inside state owner sharers is all.reached;
    legal = all.legal;
  };
  forwarded = λ v local core next sent requester known inside there copy is all. record {
    reached = forwarded_keeps v local core next sent requester (omega (arith, there)) known.0.few known.0.shaped
        (known.0.kept core there) there inside copy is all.reached;
    legal = all.legal;
  };
  filling = λ v local core place next misses known inside there is takes all. record {
    reached = fill_keeps v local core (omega (arith, there)) known.0.few known.0.shaped known.1.machine
        (known.0.kept core there) there inside (known.1.performable core local) all.reached place next is misses;
    legal = fill_legal v local core (omega (arith, there)) known.0.few known.0.shaped known.1.machine
        (known.0.kept core there) there inside (known.1.performable core local) all.reached place next is misses
        all.legal;
  };
  counting = λ v local core from place next misses known inside there is takes all. record {
    reached = count_keeps v local core (omega (arith, there)) known.0.few known.0.shaped known.1.machine
        (known.0.kept core there) there inside (known.1.performable core local) all.reached from place next is misses;
    legal = count_legal v local core (omega (arith, there)) known.0.few known.0.shaped known.1.machine
        (known.0.kept core there) there inside (known.1.performable core local) all.reached from place next is misses
        all.legal;
  };
}

-- A delivery of a chosen message leaves the slice faithful.
pub faithful_delivery : (old new : PartsView) → IsWhole old.view → IsAddressed old.view → IsFaithful old.view
    → (pick : Pick) (answer : Delivered) → AfterDelivery old pick answer new → IsFaithful new.view
faithful_delivery old new whole addressed all pick answer =
    delivery_keeps Known IsFaithful messages_keep old new whole (whole, addressed) all pick answer

-- So does one of the next message of a class.
pub faithful_deliver_next : (old new : PartsView) → IsWhole old.view → IsAddressed old.view → IsFaithful old.view
    → (class : Class) (answer : Delivery Pick) → AfterDeliverNext old class answer new → IsFaithful new.view
faithful_deliver_next old new whole addressed all class answer =
    deliver_next_keeps Known IsFaithful messages_keep old new whole (whole, addressed) all class answer
