use Rattle.protocol_coherence.proofs.Promises.{reached_settled}
use Rattle.protocol_coherence.proofs.owner_has_the_line.Goals as goal

pub returns : goal.returns
returns c = record { settled = reached_settled }
