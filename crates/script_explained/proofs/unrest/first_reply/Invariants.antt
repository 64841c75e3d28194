use Rattle.std.proofs.Common.{◌≡◌, ◌-◌, length}
use Rattle.std.specs.List.{range_with_len}
use Rattle.script_explained.specs.Unrest.{replies_in}
use Rattle.script_explained.proofs.unrest.first_reply.Given as goal

-- of the cores so far there is none
abbrev pub invariant-loop-core : goal.invariant-loop-core
invariant-loop-core l =
    let cores = length l.state.view.caches in
    replies_in l.state.view (range_with_len l.core (cores - l.core)) ≡ replies_in l.state.view (range_with_len 0 cores)
