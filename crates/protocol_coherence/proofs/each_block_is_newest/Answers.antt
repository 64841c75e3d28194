use Rattle.protocol_coherence.proofs.Promises.{reached_current}
use Rattle.protocol_coherence.proofs.ValueSteps.{with_blocks, without_blocks}
use Rattle.protocol_coherence.proofs.each_block_is_newest.Goals as goal

pub returns : goal.returns
returns c = record { current = reached_current; without = without_blocks; with = with_blocks }
