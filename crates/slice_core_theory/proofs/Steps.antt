-- What each step of a slice keeps, and with it each call: a fact of the slice's value, given what else is known of it.
use Rattle.std.specs.Prelude.{◌≡◌, ℕ, ◌<◌, true, List, length, Option, Some, IsSome}
use Rattle.address_map.specs.Locator.{local_at}
use Rattle.address_map.specs.Place.{line_of}
use Rattle.address_map.specs.declared.address.CoreId.{CoreId}
use Rattle.address_map.specs.declared.address.Local.{Local}
use Rattle.address_map.specs.declared.request.Request.{Request}
use Rattle.cache_array.specs.Array.{held_at as array_at}
use Rattle.cache_table.specs.Row.{row_of}
use Rattle.cache_table.specs.declared.row.CacheSends.{CacheSends}
use Rattle.cache_table.specs.declared.row.CacheSends.TheVariants as cache_sends
use Rattle.cache_table.specs.declared.row.Row.TheVariants as rows
use Rattle.cache_table.specs.declared.state.CopyState.{CopyState}
use Rattle.directory_table.specs.declared.row.DirStep.{DirStep}
use Rattle.directory_table.specs.declared.state.DirState.{DirState}
use Rattle.mshr_file.specs.declared.registers.Register.{Register}
use Rattle.mshr_file.specs.Miss.{has_miss, targets_of, AddsTarget, TakesTargets}
use Rattle.slice_core_theory.proofs.Accesses.{HasPlaceFor, HasVictimFor, sends_for}
use Rattle.slice_core_spec.specs.Within.{HasCopy}
use Rattle.slice_core_spec.specs.Calls.{filled_by}
use Rattle.slice_core_spec.specs.Plan.{plan_of}
use Rattle.slice_core_spec.specs.Steps.{after_directory, after_evict, after_forwarded, after_hand, after_hit}
use Rattle.slice_core_spec.specs.Steps.{after_home, after_join, after_open, after_settling}
use Rattle.slice_core_spec.specs.View.{View, channels_at, cache_at}
use Rattle.slice_core_cache.specs.Access.{CanLeave, event_of}
use Rattle.slice_core_cache.specs.Perform.{performed_in}
use Rattle.slice_core_cache.specs.CoreCache.{array_copy, state_of}
use Rattle.slice_core_cache.specs.Steps.{copy_after_ack}
use Rattle.slice_core_cache.specs.declared.access.Ask.{Ask}
use Rattle.slice_core_cache.specs.declared.access.Placement.{Placement}
use Rattle.slice_core_cache.specs.declared.copy.CacheCopy.{CacheCopy}
use Rattle.slice_queues.specs.Line.{core_at}
use Rattle.slice_queues.specs.declared.channel.Channel.TheVariants as channels
use Rattle.target_list.specs.declared.target.Target.{Target}
use Rattle.slice_core_spec.specs.Plan.{ack_move, directory_move, fill_move, forwarded_move, home_move}

-- Each access, eviction and reply keeps the fact.
pub record KeepsAccesses (Whole Fact : View → Type 0) : Type 0 where
  pub hit : (v : View) (core : CoreId) (local : Local) (request : Request) (next : CopyState) → Whole v
      → core.0 < length v.caches → local.0 < v.lines.lines → local_at v.lines (line_of request.word).0 ≡ Some local
      → IsSome (array_at (cache_at v core).array local)
      → row_of (state_of (cache_at v core) local) (event_of request.op) ≡ rows.Go next cache_sends.Nothing → Fact v
      → Fact (after_hit v core request local next)
  pub opening : (v : View) (core : CoreId) (local : Local) (request : Request) (placement : Placement)
      (next : CopyState)
      (ask : Ask) (misses : List Register) (target : Target) → Whole v → core.0 < length v.caches
      → local.0 < v.lines.lines → HasPlaceFor (cache_at v core) local placement → HasVictimFor v core local placement
      → row_of (state_of (cache_at v core) local) (event_of request.op) ≡ rows.Go next (sends_for ask)
      → AddsTarget (cache_at v core).misses misses local.0 target → Fact v
      → Fact (after_open v core request local placement next ask misses)
  pub join : (v : View) (core : CoreId) (local : Local) (request : Request) (misses : List Register) (target : Target)
      → Whole v → core.0 < length v.caches → local.0 < v.lines.lines → has_miss (cache_at v core).misses local.0 ≡ true
      → AddsTarget (cache_at v core).misses misses local.0 target → Fact v → Fact (after_join v core request misses)
  pub evict : (v : View) (core : CoreId) (local : Local) → Whole v → core.0 < length v.caches
      → local.0 < v.lines.lines → CanLeave (cache_at v core) local → Fact v → Fact (after_evict v core local)
  pub hand : (v : View) (core : CoreId) (tag : ℕ) → core.0 < length v.caches → Fact v → Fact (after_hand v core tag)

-- The targets of the line that the copy allows are taken.
abbrev pub TakesAllowed : View → Local → CoreId → CacheCopy → List Register → Type 0
TakesAllowed v local core copy misses =
    TakesTargets (cache_at v core).misses misses local.0
    (performed_in copy.state (targets_of (cache_at v core).misses local.0))

-- Each message that is taken keeps the fact.
pub record KeepsMessages (Whole Fact : View → Type 0) : Type 0 where
  pub directory : (v : View) (local : Local) (core : CoreId) (step : DirStep) → Whole v
      → local.0 < v.lines.lines → core.0 < length v.caches
      → plan_of v local (channels.Req core) ≡ directory_move step → Fact v → Fact (after_directory v local core step)
  pub home : (v : View) (local : Local) (state : DirState) (owner : Option CoreId) (sharers : ℕ) → Whole v
      → local.0 < v.lines.lines → plan_of v local channels.Home ≡ home_move state owner sharers → Fact v
      → Fact (after_home v local state owner sharers)
  pub forwarded : (v : View) (local : Local) (core : CoreId) (next : CopyState) (sent : CacheSends)
      (requester : CoreId) → Whole v → local.0 < v.lines.lines → core.0 < length v.caches
      → HasCopy (cache_at v core) local → plan_of v local (channels.Fwd core) ≡ forwarded_move next sent requester
      → Fact v → Fact (after_forwarded v local core next sent requester)
  pub filling : (v : View) (local : Local) (core : CoreId) (way : ℕ) (next : CopyState) (misses : List Register)
      → Whole v → local.0 < v.lines.lines → core.0 < length v.caches
      → plan_of v local (channels.Data core) ≡ fill_move way next
      → TakesAllowed v local core
      (filled_by (array_copy (cache_at v core) local) (core_at (channels_at v local) core.0).data next) misses → Fact v
      → Fact (after_settling v local core (channels.Data core)
      (filled_by (array_copy (cache_at v core) local) (core_at (channels_at v local) core.0).data next) misses)
  pub counting : (v : View) (local : Local) (core from : CoreId) (way : ℕ) (next : CopyState)
      (misses : List Register) → Whole v → local.0 < v.lines.lines → core.0 < length v.caches
      → plan_of v local (channels.Ack core from) ≡ ack_move way next
      → TakesAllowed v local core (copy_after_ack (array_copy (cache_at v core) local) next) misses → Fact v
      → Fact (after_settling v local core (channels.Ack core from)
      (copy_after_ack (array_copy (cache_at v core) local) next) misses)
