use Rattle.std.proofs.Common.{◌≡◌, ◌++◌, length, map}
use Rattle.slice_queues.specs.Pick.{pick_at}
use Rattle.program_run.specs.declared.moves.Move.TheVariants as moves
use Rattle.program_run.proofs.front.push_all.Given as goal

-- the deliveries so far, and those of the channels that are left
abbrev pub invariant-loop-channel : goal.invariant-loop-channel
invariant-loop-channel l =
    l.initial.moves.items ++ map (λ channel. moves.Deliver (pick_at l.line channel)) l.fn.waiting
    ≡ l.moves.items ++ map (λ channel. moves.Deliver (pick_at l.line channel)) l.left

abbrev pub decreases-loop-channel : goal.decreases-loop-channel
decreases-loop-channel l = length l.left
