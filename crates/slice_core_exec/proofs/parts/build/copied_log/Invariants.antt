use Rattle.std.proofs.Common.{◌≡◌, take}
use Rattle.std.specs.Prelude.{vec_capacity}
use Rattle.slice_core_exec.proofs.parts.build.copied_log.Given as goal

abbrev pub invariant-loop-number : goal.invariant-loop-number
invariant-loop-number l =
    (l.copy.items ≡ take l.number l.log.items) × (vec_capacity l.copy ≡ vec_capacity l.log)
