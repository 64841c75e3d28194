use Rattle.protocol_coherence.proofs.Promises.{reached_one_writer}
use Rattle.protocol_coherence.proofs.one_writer.Goals as goal

pub returns : goal.returns
returns c = record { one = reached_one_writer }
