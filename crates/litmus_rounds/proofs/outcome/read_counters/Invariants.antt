use Rattle.std.proofs.Common.{take}
use Rattle.litmus_rounds.specs.Outcome.{AddsMatch, HasWord}
use Rattle.litmus_rounds.proofs.outcome.read_counters.Given as goal

abbrev pub invariant-loop-counter : goal.invariant-loop-counter
invariant-loop-counter l =
    AddsMatch (HasWord l.test.config l.recorded.slices) (take l.counter-index l.counter-items)
    l.fn.values.items l.values.items
