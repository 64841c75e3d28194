use Rattle.std.proofs.Common.{◌≡◌, length}
use Rattle.address_map.specs.CoreSet.{members}
use Rattle.slice_queues.specs.Waiting.{AreCores, acks_from}
use Rattle.slice_queues.proofs.waiting.AcksLeft.next.Given as goal

abbrev pub invariant-loop-from : goal.invariant-loop-from
invariant-loop-from l =
    (acks_from l.self l.cores ≡ acks_from l.initial.self l.cores)
    × AreCores l.cores l.self.receivers

abbrev pub decreases-loop-from : goal.decreases-loop-from
decreases-loop-from l = length (members l.self.receivers)
