use Rattle.std.proofs.Common.{◌≡◌, ◌++◌, take}
use Rattle.std.specs.Prelude.{vec_capacity}
use Rattle.slice_queues.proofs.lines.copy_runs.Given as goal

abbrev pub invariant-loop-place : goal.invariant-loop-place
invariant-loop-place l =
    (l.to.items ≡ l.initial.to.items ++ take l.place l.from)
    × (vec_capacity l.to ≡ vec_capacity l.initial.to)
