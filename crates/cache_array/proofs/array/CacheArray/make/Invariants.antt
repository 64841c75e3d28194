use Rattle.std.proofs.Common.{◌≡◌, replicate}
use Rattle.cache_array.specs.Set.{empty_set}
use Rattle.cache_array.proofs.array.CacheArray.make.Given as goal

abbrev pub invariant-loop-set : goal.invariant-loop-set
invariant-loop-set g l = l.sets.items ≡ replicate l.set (empty_set l.ways)
