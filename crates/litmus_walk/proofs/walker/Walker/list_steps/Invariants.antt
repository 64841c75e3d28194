use Rattle.std.proofs.Common.{◌≡◌, ◌++◌, ◌-◌, length, map}
use Rattle.std.specs.Prelude.{filter}
use Rattle.std.specs.List.{range_with_len}
use Rattle.litmus_walk.specs.Moves.{may_step, steps_in}
use Rattle.litmus_walk.specs.declared.moves.Move.TheVariants as moves
use Rattle.litmus_walk.proofs.walker.Walker.list_steps.Given as goal

-- the steps of the threads so far, and of those that are left
abbrev pub invariant-loop-number : goal.invariant-loop-number
invariant-loop-number l =
    l.initial.moves.items ++ steps_in l.threads l.self.places.items
    ≡ l.moves.items ++ map moves.Step (filter (may_step l.threads l.self.places.items)
    (range_with_len l.number (length l.threads - l.number)))
