-- What holds of a slice after every call, and why: the invariant of its proof. No caller needs it.
use Rattle.std.specs.Prelude.{◌≡◌, ℕ, ◌+◌, ◌^◌, ◌<◌, ◌≤◌, Bool, true, false, length, sum_by, Option, Some, None, IsSome}
use Rattle.address_map.specs.Locator.{IsOfMachine}
use Rattle.address_map.specs.declared.address.CoreId.{CoreId}
use Rattle.address_map.specs.declared.address.Local.{Local}
use Rattle.cache_array.specs.Array.{held_at as array_at}
use Rattle.cache_table.specs.CopyState.{is_leaving, is_waiting}
use Rattle.cache_table.specs.declared.state.CopyState.{CopyState}
use Rattle.cache_table.specs.declared.state.CopyState.TheVariants as copy_states
use Rattle.mshr_file.specs.Miss.{has_miss}
use Rattle.slice_log.specs.Log.{IsOrdered}
use Rattle.slice_core_cache.specs.Kept.{IsKept}
use Rattle.slice_core_cache.specs.CoreCache.{state_of}
use Rattle.slice_core_theory.specs.Standing.{HasNoEntry, IsAccount, target_count}
use Rattle.slice_core.specs.Facts.{CountsAccepted}
use Rattle.slice_core_theory.specs.Newest.{IsFaithful}
use Rattle.slice_core_spec.specs.Calls.{PartsView}
use Rattle.slice_core_spec.specs.View.{View, channels_at, cache_at, IsOwned, IsShaped}
use Rattle.slice_queues.specs.Line.{core_at}
use Rattle.slice_queues.specs.declared.message.RequestMessage.{RequestMessage}
use Rattle.slice_queues.specs.declared.message.RequestMessage.TheVariants as request_messages
use Rattle.writeback_buffer.specs.Buffer.{held_at as buffer_at}

-- ---- sizes and counts

-- The slice is whole, and its counts fit: the log has room for all that waits.
pub record HasFittingCounts (p : PartsView) : Type 0 where
  pub shaped : IsShaped p.view
  pub machine : IsOfMachine p.view.lines
  pub some_core : 0 < length p.view.caches
  pub cores : length p.view.caches ≤ 64
  pub stats : length p.stats.cores ≡ length p.view.caches
  pub pending : p.pending ≡ sum_by (λ cache. target_count cache.misses) p.view.caches
  pub room : length p.view.log + p.pending ≤ p.room
  pub bounded : p.room < 2 ^ 63
  pub accepted : CountsAccepted p

-- ---- requests

-- Each core's requests are accounted for, and the log is in each core's order.
pub record HasAccounts (v : View) : Type 0 where
  pub accounts : (core : CoreId) → core.0 < length v.caches
      → IsAccount v.lines v.log core.0 (cache_at v core).misses (cache_at v core).tags (cache_at v core).accepted
  pub absent : (core : ℕ) → length v.caches ≤ core → HasNoEntry core v.log
  pub ordered : IsOrdered v.log

-- ---- copies

-- a request that waits for the directory is one that a copy in this state has sent
abbrev pub has_sent : CopyState → Option RequestMessage → Bool
has_sent state None = true
has_sent copy_states.IS_D (Some request_messages.GetS) = true
has_sent copy_states.IM_AD (Some request_messages.GetM) = true
has_sent copy_states.SM_AD (Some request_messages.GetM) = true
has_sent state (Some request_messages.PutS) = is_leaving state
has_sent state (Some (request_messages.PutM block)) = is_leaving state
has_sent state request = false

-- A core's copies are where they belong; each that waits has a register; and what a core has asked for a line fits
-- its copy. So nothing is asked for a copy that waits for nothing.
pub record HasLinks (v : View) : Type 0 where
  pub kept : (core : CoreId) → core.0 < length v.caches → IsKept (cache_at v core)
  pub own : (core : CoreId) (local : Local) → core.0 < length v.caches → IsSome (array_at (cache_at v core).array local)
      → local.0 < v.lines.lines
  pub leaves : (core : CoreId) (local : Local) → core.0 < length v.caches
      → IsSome (buffer_at (cache_at v core).buffer.write_backs local.0) → local.0 < v.lines.lines
  pub waits : (core : CoreId) (local : Local) → core.0 < length v.caches
      → is_waiting (state_of (cache_at v core) local) ≡ has_miss (cache_at v core).misses local.0
  pub sent : (core : CoreId) (local : Local) → core.0 < length v.caches → local.0 < v.lines.lines
      → has_sent (state_of (cache_at v core) local) (core_at (channels_at v local) core.0).request ≡ true
  pub owned : (local : Local) → local.0 < v.lines.lines → IsOwned v local

-- All of it; and each line is, with its blocks, in a state that the protocol's machine can come to, and the log is
-- legal.
pub record IsSound (p : PartsView) : Type 0 where
  pub counted : HasFittingCounts p
  pub accounts : HasAccounts p.view
  pub links : HasLinks p.view
  pub faithful : IsFaithful p.view
