use Rattle.std.proofs.Common.{length}
use Rattle.std.specs.List.{AllByRecursion}
use Rattle.address_map.specs.CoreSet.{members}
use Rattle.slice_queues.proofs.InvalidateLaws.{TakesForwarded}
use Rattle.slice_queues.proofs.line_queues.LineQueues.takes_invalidations.Given as goal

abbrev pub invariant-loop-core : goal.invariant-loop-core
invariant-loop-core l =
    (AllByRecursion (TakesForwarded l.self) (members l.left) →
    AllByRecursion (TakesForwarded l.self) (members l.initial.left))
    × (AllByRecursion (TakesForwarded l.self) (members l.initial.left) →
    AllByRecursion (TakesForwarded l.self) (members l.left))

abbrev pub decreases-loop-core : goal.decreases-loop-core
decreases-loop-core l = length (members l.left)
