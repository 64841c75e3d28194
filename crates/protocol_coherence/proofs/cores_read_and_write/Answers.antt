use Rattle.protocol_coherence.proofs.Runs.{can_be_read, can_be_written}
use Rattle.protocol_coherence.proofs.cores_read_and_write.Goals as goal

pub returns : goal.returns
returns c = record { written = can_be_written; read = can_be_read }
