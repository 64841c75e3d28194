use Rattle.slice_core_theory.proofs.Beginning.{reached_initial}
use Rattle.slice_core_theory.proofs.BlocksBeginning.{legal_initial, reached_with_initial}
use Rattle.slice_core_theory.proofs.coherence.new_slice_is_reached.Goals as goal

pub returns : goal.returns
returns c = record {
  reached = reached_initial;
  faithful = λ config bound slice p new machine. record {
    reached = reached_with_initial config bound slice p new machine;
    legal = legal_initial config bound slice p new;
  };
}
