use Rattle.std.proofs.Common.{◌≡◌, take}
use Rattle.cache_array.proofs.array.CacheArray.try_clone.Given as goal

abbrev pub invariant-loop-index : goal.invariant-loop-index
invariant-loop-index g l = l.sets.items ≡ take l.index l.self.sets
