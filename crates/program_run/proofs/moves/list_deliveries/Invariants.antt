use Rattle.std.proofs.Common.{◌≡◌, ◌++◌, take}
use Rattle.program_run.specs.Kept.{Knows}
use Rattle.program_run.specs.Run.{deliveries_of}
use Rattle.program_run.proofs.moves.list_deliveries.Given as goal

-- those of the slices so far
abbrev pub invariant-loop-slice : goal.invariant-loop-slice
invariant-loop-slice l =
    (l.moves.items ≡ l.initial.moves.items ++ deliveries_of (take l.slice l.machine.slices.items))
    × Knows l.machine.config l.machine.slices.items l.kept
