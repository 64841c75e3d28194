use Rattle.std.proofs.Common.{◌≡◌, [], drop}
use Rattle.program_run.specs.Kept.{Knows}
use Rattle.program_run.specs.Run.{owed_from}
use Rattle.program_run.proofs.owed.list_owed.Given as goal

-- the slices so far have none
abbrev pub invariant-loop-slice : goal.invariant-loop-slice
invariant-loop-slice l = record {
  none : l.moves.items ≡ [];
  left : owed_from l.owed 0 l.machine.slices.items ≡ owed_from l.owed l.slice (drop l.slice l.machine.slices.items);
  kept : Knows l.machine.config l.machine.slices.items l.kept;
}
