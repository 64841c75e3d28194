use Rattle.slice_core_theory.proofs.NeverBroken.{delivery_unbroken, next_unbroken}
use Rattle.slice_core_theory.proofs.Unbroken.{whole_is_unbroken}
use Rattle.slice_core_theory.proofs.coherence.no_message_is_broken.Goals as goal

pub returns : goal.returns
returns c = record {
  message = whole_is_unbroken;
  named = λ old new pick answer cell unbroken. delivery_unbroken old new unbroken cell pick answer;
  next = λ old new class answer cell unbroken. next_unbroken old new unbroken cell class answer;
}
