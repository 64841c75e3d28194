use Rattle.std.proofs.Common.{◌≡◌, map, take}
use Rattle.drain.specs.Valued.{unset_counter}
use Rattle.drain.proofs.counted.unsettled.Given as goal

abbrev pub invariant-loop-word : goal.invariant-loop-word
invariant-loop-word l = l.counters.items ≡ map unset_counter (take l.word-index l.config.counters)
