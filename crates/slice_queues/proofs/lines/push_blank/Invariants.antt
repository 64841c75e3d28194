use Rattle.std.proofs.Common.{◌≡◌, ◌++◌, replicate}
use Rattle.std.specs.Prelude.{vec_capacity}
use Rattle.slice_queues.specs.Line.{no_messages}
use Rattle.slice_queues.proofs.lines.push_blank.Given as goal

abbrev pub invariant-loop-core : goal.invariant-loop-core
invariant-loop-core l =
    (l.cores.items ≡ l.initial.cores.items ++ replicate l.core no_messages)
    × (vec_capacity l.cores ≡ vec_capacity l.initial.cores)
