use Rattle.protocol_coherence.proofs.Promises.{reached_has_room}
use Rattle.protocol_coherence.proofs.each_send_has_room.Goals as goal

pub returns : goal.returns
returns c = record { room = reached_has_room }
