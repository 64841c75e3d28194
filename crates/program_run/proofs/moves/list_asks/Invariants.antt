use Rattle.std.proofs.Common.{◌≡◌, ◌++◌, map}
use Rattle.std.specs.Prelude.{filter}
use Rattle.std.specs.List.{range_with_len}
use Rattle.program_run.specs.Kept.{Knows}
use Rattle.program_run.specs.Run.{may_ask}
use Rattle.program_run.specs.declared.moves.Move.TheVariants as moves
use Rattle.program_run.proofs.moves.list_asks.Given as goal

-- those of the programs so far
abbrev pub invariant-loop-number : goal.invariant-loop-number
invariant-loop-number l =
    (l.moves.items ≡ l.initial.moves.items
    ++ map moves.Ask (filter (may_ask l.machine.config l.programs l.machine.slices.items l.places)
    (range_with_len 0 l.number)))
    × Knows l.machine.config l.machine.slices.items l.kept
