use Rattle.slice_core_theory.proofs.BlocksDeliveries.{faithful_deliver_next, faithful_delivery}
use Rattle.slice_core_theory.proofs.coherence.deliveries_keep_slice_faithful.Goals as goal

pub returns : goal.returns
returns c = record {
  named = λ old new pick answer whole addressed all. faithful_delivery old new whole addressed all pick answer;
  next = λ old new class answer whole addressed all. faithful_deliver_next old new whole addressed all class answer;
}
