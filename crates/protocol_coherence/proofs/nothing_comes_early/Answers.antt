use Rattle.protocol_coherence.proofs.Promises.{reached_nothing_early}
use Rattle.protocol_coherence.proofs.nothing_comes_early.Goals as goal

pub returns : goal.returns
returns c = record { early = reached_nothing_early }
