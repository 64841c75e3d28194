-- What is known of a copy that a delivery changes.
use Rattle.std.specs.Prelude.{◌≡◌, ℕ, ◌⊎◌, Bool, true, false, position, Some, IsSome}
use Rattle.address_map.specs.declared.address.Local.{Local}
use Rattle.cache_array.specs.Array.{held_at as array_at, slots_at}
use Rattle.cache_array.specs.Set.{holds}
use Rattle.cache_table.specs.declared.state.CopyState.{CopyState}
use Rattle.cache_table.specs.declared.state.CopyState.TheVariants as copy_states
use Rattle.slice_core_cache.specs.CoreCache.{CoreCacheView}
use Rattle.writeback_buffer.specs.Buffer.{held_at as buffer_at}

-- the core has a copy of the line, in its array or its write-back buffer
abbrev pub HasCopy : CoreCacheView → Local → Type 0
HasCopy cache local = IsSome (array_at cache.array local) ⊎ IsSome (buffer_at cache.buffer.write_backs local.0)

-- the copy is in this way of its set
abbrev pub StandsAt : CoreCacheView → Local → ℕ → Type 0
StandsAt cache local way = position (holds local) (slots_at cache.array local) ≡ Some way

-- a copy in this state may be read alone
abbrev pub is_shared : CopyState → Bool
is_shared copy_states.S = true
is_shared _ = false
