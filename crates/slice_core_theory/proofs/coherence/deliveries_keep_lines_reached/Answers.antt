use Rattle.slice_core_theory.proofs.Deliveries.{reached_deliver_next, reached_delivery}
use Rattle.slice_core_theory.proofs.coherence.deliveries_keep_lines_reached.Goals as goal

pub returns : goal.returns
returns c = record {
  named = λ old new pick answer whole all. reached_delivery old new whole all pick answer;
  next = λ old new class answer whole all. reached_deliver_next old new whole all class answer;
}
