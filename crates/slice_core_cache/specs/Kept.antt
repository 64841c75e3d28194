-- What holds of every core: its copies are where they belong.
use Rattle.std.specs.Prelude.{◌≡◌, Bool, true, false, None, IsSome, IfSome}
use Rattle.address_map.specs.declared.address.Local.{Local}
use Rattle.cache_array.specs.Array.{held_at as array_at, IsArray}
use Rattle.cache_table.specs.CopyState.{is_leaving}
use Rattle.cache_table.specs.declared.state.CopyState.{CopyState}
use Rattle.cache_table.specs.declared.state.CopyState.TheVariants as copy_states
use Rattle.slice_core_cache.specs.CoreCache.{CoreCacheView}
use Rattle.writeback_buffer.specs.Buffer.{IsBuffer, held_at as buffer_at}

-- a copy in this state is in the array: it is held, or waited for
abbrev pub stands_in_array : CopyState → Bool
stands_in_array copy_states.I = false
stands_in_array copy_states.MI_A = false
stands_in_array copy_states.SI_A = false
stands_in_array copy_states.II_A = false
stands_in_array _ = true

-- Array and buffer are sound, no line is in both, and each copy is where its state belongs.
pub record IsKept (cache : CoreCacheView) : Type 0 where
  pub array : IsArray cache.array
  pub buffer : IsBuffer cache.buffer
  pub apart : (local : Local) → IsSome (array_at cache.array local) → buffer_at cache.buffer.write_backs local.0 ≡ None
  pub held : (local : Local) → IfSome (array_at cache.array local) (λ copy. stands_in_array copy.state ≡ true)
  pub leaving : (local : Local) →
      IfSome (buffer_at cache.buffer.write_backs local.0) (λ leaving. is_leaving leaving.state ≡ true)
