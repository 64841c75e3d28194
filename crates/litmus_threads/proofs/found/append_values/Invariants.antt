use Rattle.std.proofs.Common.{◌≡◌, ◌++◌, take}
use Rattle.std.specs.Prelude.{map}
use Rattle.litmus_threads.proofs.found.append_values.Given as goal

abbrev pub invariant-loop-counter : goal.invariant-loop-counter
invariant-loop-counter l =
    l.values.items ≡ l.initial.values.items ++ map (λ counter. counter.value) (take l.counter-index l.counters)
