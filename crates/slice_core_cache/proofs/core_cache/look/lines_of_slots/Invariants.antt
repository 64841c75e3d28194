use Rattle.std.proofs.Common.{◌≡◌, take}
use Rattle.cache_array.specs.Set.{lines_of}
use Rattle.slice_core_cache.proofs.core_cache.look.lines_of_slots.Given as goal

-- those so far
abbrev pub invariant-loop-slot : goal.invariant-loop-slot
invariant-loop-slot l = l.lines.items ≡ lines_of (take l.slot-index l.slots)
