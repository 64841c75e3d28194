-- A slice in which nothing was asked for yet belongs to a book that has counted nothing.
use Rattle.std.proofs.Common.{◌≡◌, ℕ, zero, suc, ◌<◌, ◌∷◌, ap, map, refl, replicate, subst, sym}
use Rattle.address_map.specs.declared.address.SliceId.{SliceId}
use Rattle.address_map.specs.declared.config.Config.{Config}
use Rattle.mshr_file.specs.Miss.{Bound}
use Rattle.receipt_ledger.proofs.Booked.{new-booked, same-booked}
use Rattle.cache_array.specs.Set.{SetView, empty_set}
use Rattle.receipt_ledger.specs.Booked.{IsTied}
use Rattle.receipt_ledger.specs.Slice.{IsBuiltAs}
use Rattle.slice_core.specs.Shape.{shape_of}
use Rattle.slice_answer.specs.Stats.{StatsView}
use Rattle.slice_core_cache.specs.CoreCache.{new_cache}
use Rattle.slice_core_cache.specs.declared.copy.CacheCopy.{CacheCopy}
use Rattle.receipt_ledger.specs.Totals.{nothing}
use Rattle.slice_core_theory.specs.SmallMachine.{IsSame, new_small_machine}
use Rattle.slice_core_theory.specs.Shows.{small_machine_of}
use Rattle.slice_core_spec.specs.Calls.{IsNew, PartsView}

map-replicate : {X Y : Type 0} (f : X → Y) (n : ℕ) (x : X) → map f (replicate n x) ≡ replicate n (f x)
map-replicate f zero x = refl
map-replicate f (suc n) x = ap (λ ys. f x ∷ ys) (map-replicate f n x)

-- A core that has asked for nothing yet is built as configured.
new-part : (c : Config) (bound : Bound) (slice core : ℕ) → IsBuiltAs c (shape_of (new_cache c bound slice core))
new-part c bound slice core = record {
  ways = map-replicate (λ (set : SetView CacheCopy). set.ways) c.sets (empty_set c.ways);
  policy = refl;
  writebacks = refl;
}

pub new-tied : (c : Config) (bound : Bound) (slice : SliceId) (p : PartsView) → slice.0 < c.slices
    → IsNew c bound slice p → IsSame new_small_machine (small_machine_of p.view) → IsTied c slice.0 nothing p
new-tied c bound slice p known is same = record {
  slice = record {
    allowed = is.allowed;
    named = known;
    lines = is.lines;
    init = is.init;
    counters = is.counters;
    cores = is.caches.count_is;
    parts = λ core known. subst (λ cache. IsBuiltAs c (shape_of cache)) (sym (is.caches.each core.0 known))
        (new-part c bound slice.0 core.0);
    exclusive = is.exclusive;
  };
  reported = ap (λ (s : StatsView). s.exclusive) is.stats;
  booked =
      same-booked c slice.0 nothing new_small_machine (new-booked c slice.0) (small_machine_of p.view) same;
}
