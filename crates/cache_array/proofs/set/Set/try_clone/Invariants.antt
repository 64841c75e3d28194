use Rattle.std.proofs.Common.{◌≡◌, take}
use Rattle.std.specs.Prelude.{vec_capacity}
use Rattle.cache_array.proofs.set.Set.try_clone.Given as goal

abbrev pub invariant-loop-way : goal.invariant-loop-way
invariant-loop-way g l = (l.slots.items ≡ take l.way l.self.slots) × (vec_capacity l.slots ≡ l.self.ways)
