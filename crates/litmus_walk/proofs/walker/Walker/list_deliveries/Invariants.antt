use Rattle.std.proofs.Common.{◌≡◌, ◌++◌, drop}
use Rattle.std.specs.List.{flat_map}
use Rattle.litmus_walk.specs.Moves.{deliveries_at}
use Rattle.litmus_walk.proofs.walker.Walker.list_deliveries.Given as goal

-- the deliveries of the lines so far, and of those that are left
abbrev pub invariant-loop-line : goal.invariant-loop-line
invariant-loop-line l =
    l.initial.moves.items ++ flat_map (deliveries_at l.self.recorded) l.lines
    ≡ l.moves.items ++ flat_map (deliveries_at l.self.recorded) (drop l.line-index l.lines)
