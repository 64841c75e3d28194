use Rattle.std.proofs.Common.{◌≡◌, map}
use Rattle.std.specs.List.{range_with_len}
use Rattle.program_run.specs.Run.{usage_of}
use Rattle.program_run.proofs.runner.list_usages.Given as goal

-- those of the cores so far
abbrev pub invariant-loop-core : goal.invariant-loop-core
invariant-loop-core l =
    l.usages.items ≡ map (usage_of l.programs.cores.items l.places) (range_with_len 0 l.core)
