use Rattle.slice_core_theory.proofs.Bounded.{bounded}
use Rattle.slice_core_theory.proofs.coherence.no_channel_is_overfull.Goals as goal

pub returns : goal.returns
returns c = bounded
