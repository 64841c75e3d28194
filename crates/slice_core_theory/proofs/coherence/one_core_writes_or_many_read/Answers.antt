use Rattle.slice_core_theory.proofs.Consequences.{one_writer}
use Rattle.slice_core_theory.proofs.coherence.one_core_writes_or_many_read.Goals as goal

pub returns : goal.returns
returns c = one_writer
