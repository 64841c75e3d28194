-- What a core's part of a slice is built of.
use Rattle.std.specs.Prelude.{ℕ, List, map}
use Rattle.address_map.specs.declared.config.PolicyKind.{PolicyKind}
use Rattle.mshr_file.specs.Miss.{Bound}
use Rattle.slice_core_cache.specs.CoreCache.{CoreCacheView}

-- How many ways the core's array has in each of its sets, by which policy it replaces lines, how many lines may leave
-- at once, and what bounds the misses. The generator's state is no part of it, since each random victim moves that.
pub record Shape : Type 0 where
  pub ways : List ℕ
  pub policy : PolicyKind
  pub writebacks : ℕ
  pub bound : Bound

abbrev pub shape_of : CoreCacheView → Shape
shape_of cache = record {
  ways = map (λ set. set.ways) cache.array.sets;
  policy = cache.array.policy;
  writebacks = cache.buffer.capacity;
  bound = cache.bound;
}
