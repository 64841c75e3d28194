use Rattle.std.proofs.Common.{length}
use Rattle.address_map.specs.CoreSet.{members}
use Rattle.what_if.proofs.state_text.write_inv_acks.Given as goal

abbrev pub decreases-loop-sender : goal.decreases-loop-sender
decreases-loop-sender g l = length (members l.rest)
