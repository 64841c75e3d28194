use Rattle.protocol_coherence.proofs.Promises.{reached_has_rows}
use Rattle.protocol_coherence.proofs.each_message_has_a_row.Goals as goal

pub returns : goal.returns
returns c = record { rows = reached_has_rows }
