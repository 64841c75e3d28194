use Rattle.std.proofs.Common.{◌≡◌, Some, position, subst, sym}
use Rattle.cache_array.specs.Array.{slots_at}
use Rattle.cache_array.specs.Set.{holds}
use Rattle.slice_core_cache.specs.CoreCache.{CoreCacheView}
use Rattle.slice_core_cache.proofs.Places.{written_there}
use Rattle.slice_core_cache.proofs.core_cache.CoreCache.hit.Goals as goal

pub touch_at-requires : goal.touch_at-requires
touch_at-requires g c =
    let array = c.self.inside.array in
    let found : position (holds c.args.local) (slots_at array c.args.local) ≡ Some c.args.way =
    subst (λ (cache : CoreCacheView). position (holds c.args.local) (slots_at cache.array c.args.local)
    ≡ Some c.args.way)
    (sym c.self.view_is) c.requires.held in
    written_there array c.args.local c.args.way _ found
