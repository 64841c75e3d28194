-- A core is quiet where nothing waits, nothing leaves and no reply is left.
use Rattle.std.proofs.Common.{arith, ◌≡◌, ◌↔◌, Bool, List, [], ◌∷◌, length, refl, None}
use Rattle.std.specs.Prelude.{IsTrue}
use Rattle.slice_core_cache.specs.CoreCache.{CoreCacheView, IsCoreCacheQuiet}
use Rattle.slice_core_cache.specs.Tags.{IsLeastReply}

-- a list of no element is empty
empty : {X : Type 0} (xs : List X) → length xs ≡ 0 → xs ≡ []
empty [] none = refl
empty (x ∷ xs) none = absurd (omega (arith, none))

-- where nothing waits and nothing leaves, the tags decide
pub quiet_by_tags : (cache : CoreCacheView) (quiet : Bool) → length cache.misses ≡ 0 → cache.buffer.write_backs ≡ [] →
    IsTrue quiet ↔ IsLeastReply cache.tags None → IsTrue quiet ↔ IsCoreCacheQuiet cache
quiet_by_tags cache quiet none still tags = (
  (λ yes. record { misses = empty cache.misses none; leaving = still; replies = tags.0 yes }),
  (λ all. tags.1 all.replies),
)
