use Rattle.std.proofs.Common.{◌≡◌, ◌++◌, drop, map, take}
use Rattle.slice_core_cache.specs.CoreCache.{recounted}
use Rattle.slice_core_exec.proofs.parts.new_log.count_anew.Given as goal

abbrev pub invariant-loop-cache : goal.invariant-loop-cache
invariant-loop-cache g l =
    l.caches ≡ map recounted (take l.cache-index l.fn.caches) ++ drop l.cache-index l.fn.caches
