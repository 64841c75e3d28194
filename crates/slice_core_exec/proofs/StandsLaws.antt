-- A copy for which a message is taken is in the array or the write-back buffer.
use Rattle.std.proofs.Common.{ℕ, zero, suc, ◌<◌, List, [], ◌∷◌, length, get_or, arith, ◌≡◌, ◌⊎◌, ◌∙◌, ap, inl, inr}
use Rattle.std.proofs.Common.{Option, Some, None, IsSome, refl}
use Rattle.address_map.specs.declared.address.Local.{Local}
use Rattle.cache_array.specs.Array.{held_at as array_at}
use Rattle.cache_table.specs.Row.{row_of}
use Rattle.cache_table.specs.declared.row.CacheSends.{CacheSends}
use Rattle.cache_table.specs.declared.row.Row.TheVariants as rows
use Rattle.cache_table.specs.declared.state.CopyState.{CopyState}
use Rattle.cache_table.specs.declared.state.CopyState.TheVariants as copy_states
use Rattle.slice_core_cache.specs.Copy.{found_in}
use Rattle.slice_core_cache.specs.CoreCache.{CoreCacheView, copy_of}
use Rattle.slice_core_cache.specs.declared.copy.CacheCopy.{CacheCopy}
use Rattle.slice_core_spec.specs.Plan.{event_of_forwarded}
use Rattle.slice_core_spec.specs.View.{no_cache}
use Rattle.slice_core_spec.specs.Within.{HasCopy}
use Rattle.slice_queues.specs.declared.message.ForwardedMessage.{ForwardedMessage}
use Rattle.slice_queues.specs.declared.message.ForwardedMessage.TheVariants as forwarded_messages
use Rattle.writeback_buffer.specs.Buffer.{held_at as buffer_at}
use Rattle.writeback_buffer.specs.declared.pending.Leaving.{Leaving}

-- the cache that was read is the core's
pub read_cache : (caches all : List CoreCacheView) (core : ℕ) (cache : CoreCacheView) → cache ≡ get_or caches core cache
    → caches ≡ all →
    core < length all → cache ≡ get_or all core no_cache
read_cache caches all core cache read same there =
    read ∙ ap (λ list. get_or list core cache) same ∙ default all core there
  where
    default : (list : List CoreCacheView) (at : ℕ) → at < length list → get_or list at cache ≡ get_or list at no_cache
    default [] at within = absurd (omega arith)
    default (first ∷ rest) zero within = refl
    default (first ∷ rest) (suc at) within = default rest at (omega arith)

-- no forwarded message has a row where there is no copy
none_forwarded : (message : ForwardedMessage) (next : CopyState) (sends : CacheSends) →
    row_of copy_states.I (event_of_forwarded message) ≡ rows.Go next sends → ⊥
none_forwarded (forwarded_messages.FwdGetS requester) next sends e = cc
none_forwarded (forwarded_messages.FwdGetM requester) next sends e = cc
none_forwarded (forwarded_messages.Inv requester) next sends e = cc
none_forwarded forwarded_messages.PutAck next sends e = cc

pub stands_forwarded : (cache : CoreCacheView) (local : Local) (message : ForwardedMessage) (next : CopyState)
    (sends : CacheSends) →
    row_of (copy_of cache local).state (event_of_forwarded message) ≡ rows.Go next sends → HasCopy cache local
stands_forwarded cache local message next sends =
    found (array_at cache.array local) (buffer_at cache.buffer.write_backs local.0)
  where
    found : (held : Option CacheCopy) (leaving : Option Leaving) →
        row_of (found_in held leaving).state (event_of_forwarded message) ≡ rows.Go next sends →
        IsSome held ⊎ IsSome leaving
    found (Some copy) leaving e = inl refl
    found None (Some left) e = inr refl
    found None None e = absurd (none_forwarded message next sends e)
