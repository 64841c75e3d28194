-- What else is known of a slice between two calls.
use Rattle.std.specs.Prelude.{◌<◌, ◌≤◌, All, length, IsSome}
use Rattle.address_map.specs.Locator.{IsOfMachine}
use Rattle.address_map.specs.declared.address.CoreId.{CoreId}
use Rattle.address_map.specs.declared.address.Local.{Local}
use Rattle.cache_array.specs.Array.{held_at as array_at}
use Rattle.mshr_file.specs.Miss.{targets_of}
use Rattle.slice_core_cache.specs.Kept.{IsKept}
use Rattle.slice_core_cache.specs.Targets.{IsPerformable}
use Rattle.slice_core_spec.specs.View.{View, IsShaped, cache_at}

-- Its shape; that it has no more cores than a set can have; that each core's copies are where they belong; and that
-- the arrays hold lines of the slice alone.
pub record IsWhole (v : View) : Type 0 where
  pub shaped : IsShaped v
  pub few : length v.caches ≤ 64
  pub kept : (core : CoreId) → core.0 < length v.caches → IsKept (cache_at v core)
  pub own : (core : CoreId) (local : Local) → core.0 < length v.caches
      → IsSome (array_at (cache_at v core).array local) → local.0 < v.lines.lines

-- Its lines are some of a machine's, and each target that waits names a word of its line.
pub record IsAddressed (v : View) : Type 0 where
  pub machine : IsOfMachine v.lines
  pub performable : (core : CoreId) (local : Local) → All IsPerformable (targets_of (cache_at v core).misses local.0)
