use Rattle.std.proofs.Common.{◌≡◌, ◌+◌, List}
use Rattle.std.specs.Prelude.{ℕ}
use Rattle.std.specs.List.{range_with_len}
use Rattle.slice_core_spec.specs.Calls.{PartsView}
use Rattle.program_run.specs.Tidy.{TidiesAll}
use Rattle.program_run.proofs.tidy.tidy_all.Given as goal

-- once the slices that are left are tidied, all are
abbrev pub invariant-loop-slice : goal.invariant-loop-slice
invariant-loop-slice l =
    let slices = l.initial.machine.config.slices in
    (l.machine.config ≡ l.initial.machine.config)
    × ((end : List PartsView) (left : ℕ) → l.slice + left ≡ slices
    → TidiesAll (range_with_len l.slice left) l.machine.slices.items end
    → TidiesAll (range_with_len 0 slices) l.initial.machine.slices.items end)
