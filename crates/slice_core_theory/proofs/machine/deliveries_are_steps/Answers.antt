use Rattle.slice_core_theory.proofs.Delivered.{deliver_next_performs, delivery_performs}
use Rattle.slice_core_theory.proofs.machine.deliveries_are_steps.Goals as goal

pub returns : goal.returns
returns c = record {
  named = λ old new pick answer accounted whole legal done.
      delivery_performs old new accounted whole legal pick answer done;
  next = λ old new class answer accounted whole legal done.
      deliver_next_performs old new accounted whole legal class answer done;
}
