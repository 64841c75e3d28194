use Rattle.std.proofs.Common.{◌≡◌, map, take}
use Rattle.slice_core_cache.specs.CoreCache.{state_of}
use Rattle.slice_core_exec.proofs.parts.look.states_of.Given as goal

abbrev pub invariant-loop-cache : goal.invariant-loop-cache
invariant-loop-cache g l = l.states.items ≡ map (λ cache. state_of cache l.local) (take l.cache-index l.caches)
