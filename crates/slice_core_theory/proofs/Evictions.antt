-- A line that leaves a core is a step of the line: an eviction.
use Rattle.std.proofs.Common.{◌≡◌, ◌≢◌, ◌<◌, ◌≤◌, Bool, true, length, Option, Some, None, IsSome, IsSomeAnd, unwrap_or}
use Rattle.std.proofs.Common.{refl, sym, ap, ◌∙◌, subst, true≢false}
use Rattle.address_map.specs.declared.address.CoreId.{CoreId}
use Rattle.address_map.specs.declared.address.Local.{Local}
use Rattle.address_map.specs.declared.block.Block.{Block}
use Rattle.cache_array.specs.Array.{held_at as array_at}
use Rattle.cache_table.specs.Row.{row_of}
use Rattle.cache_table.specs.declared.row.CacheEvent.TheVariants as cache_events
use Rattle.cache_table.specs.declared.row.CacheSends.{CacheSends}
use Rattle.cache_table.specs.declared.row.CacheSends.TheVariants as cache_sends
use Rattle.cache_table.specs.declared.row.Row.TheVariants as rows
use Rattle.cache_table.specs.declared.state.CopyState.{CopyState}
use Rattle.cache_table.specs.declared.state.CopyState.TheVariants as copy_states
use Rattle.protocol_coherence.specs.Line.{Line, Request}
use Rattle.protocol_coherence.specs.LineSteps.{Reached, asks_for, further}
use Rattle.slice_core_cache.proofs.Found.{copy_of-after_evict, copy_of-after_evict_other, copy_of-held}
use Rattle.slice_core_cache.specs.Access.{CanLeave}
use Rattle.slice_core_cache.specs.Copy.{leaving_copy, may_leave, no_copy}
use Rattle.slice_core_cache.specs.Kept.{IsKept}
use Rattle.slice_core_cache.specs.CoreCache.{CoreCacheView, array_copy, copy_of}
use Rattle.slice_core_cache.specs.Steps as caches
use Rattle.slice_core_cache.specs.Steps.{leaving_after_evict, next_by, put_by, put_of}
use Rattle.slice_core_cache.specs.declared.copy.CacheCopy.{CacheCopy}
use Rattle.slice_core_theory.proofs.Frame.{by_cache, with_copy_at}
use Rattle.slice_core_theory.proofs.OwnTurns.{StepStands, own_step}
use Rattle.slice_core_theory.specs.Stands.{AreReached, Stands, copies_at, kind_of_request}
use Rattle.slice_core_spec.specs.Steps.{after_evict, after_request}
use Rattle.slice_core_spec.specs.View.{View, IsShaped, channels_at, entry_at, cache_at, with_cache}
use Rattle.slice_queues.specs.Line.{after_send}
use Rattle.slice_queues.specs.declared.channel.Channel.TheVariants as channels
use Rattle.slice_queues.specs.declared.message.Message.TheVariants as messages

-- ---- the row

-- A copy that may leave has a row for its eviction, which sends its Put.
pub record LeavesBy (block : Block) (state : CopyState) : Type 0 where
  pub sent : CacheSends
  pub row : row_of state cache_events.Eviction ≡ rows.Go (next_by state (row_of state cache_events.Eviction)) sent
  pub put : (waits : Request) → kind_of_request (Some (put_by block (row_of state cache_events.Eviction)))
      ≡ asks_for sent
      waits

pub leaves_by : (block : Block) (state : CopyState) → may_leave state ≡ true → LeavesBy block state
leaves_by block copy_states.S may = record { sent = cache_sends.PutS; row = refl; put = λ waits. refl }
leaves_by block copy_states.M may = record { sent = cache_sends.PutM; row = refl; put = λ waits. refl }
leaves_by block copy_states.E may = record { sent = cache_sends.PutM; row = refl; put = λ waits. refl }
leaves_by block _ may = absurd (true≢false (sym may))

-- What passes is there, and passes.
pub passing : (test : CacheCopy → Bool) (o : Option CacheCopy) → IsSomeAnd o (λ copy. test copy ≡ true)
    → IsSome o × (test (unwrap_or o no_copy) ≡ true)
passing test None passes = absurd passes
passing test (Some copy) passes = (refl, passes)

-- ---- the step

module _ (v : View) (core : CoreId) (local : Local) (shaped : IsShaped v) (most : length v.caches ≤ 64)
    (there : core.0 < length v.caches) (inside : local.0 < v.lines.lines) (kept : IsKept (cache_at v core))
    (leaves : CanLeave (cache_at v core) local) where
  -- A copy that leaves, and notifies the directory, is a step of its line.
  unfoldable pub leave_step : (now : CacheCopy) → now
      ≡ leaving_copy (leaving_after_evict (copy_of (cache_at v core) local))
      → (line : Line)
      → Reached v.exclusive (length v.caches) line → Stands v local line
      → StepStands v.exclusive (length v.caches) (entry_at v local)
      (after_send (channels_at v local) (channels.Req core)
      (messages.Request (put_of (array_copy (cache_at v core) local))))
      (with_copy_at (copies_at v local) core.0 now) line
  leave_step now is line reached stands =
      let cache = cache_at v core in
      let copy = array_copy cache local in
      let held = passing (λ (c : CacheCopy). may_leave c.state) (array_at cache.array local) leaves.held in
      let by = leaves_by copy.block copy.state held.1 in
      let same : copy_of cache local ≡ copy = copy_of-held cache local kept held.0 in
      let is_next : now.state ≡ next_by copy.state (row_of copy.state cache_events.Eviction) =
      ap (λ (c : CacheCopy). c.state) is ∙ ap (λ (c : CacheCopy). (leaving_after_evict c).state) same in
      own_step v.exclusive (length v.caches) (entry_at v local) (channels_at v local) (copies_at v local) core.0
      cache_events.Eviction (next_by copy.state (row_of copy.state cache_events.Eviction)) by.sent now
      (Some (put_of copy)) line
      most
      there (subst (λ n. core.0 < n) (sym (shaped.cores local inside)) there) tt
      (ap (λ (c : CacheCopy). row_of c.state cache_events.Eviction) same ∙ by.row) is_next (by.put _)
      (λ waits. ap (λ (c : CacheCopy). c.counted) is) reached stands

  -- So it leaves each line reached, whatever else of the core is another.
  pub reached_leave : (cache : CoreCacheView) → copy_of cache local
      ≡ leaving_copy (leaving_after_evict (copy_of (cache_at v core) local))
      → ((other : Local) → other.0 ≢ local.0 → copy_of cache other ≡ copy_of (cache_at v core) other) → AreReached v
      → AreReached (after_request (with_cache v core cache) core local (put_of (array_copy (cache_at v core) local)))
  reached_leave cache is others all =
      let line = all local inside in
      let step = leave_step (copy_of cache local) is line.0 line.1 line.2 in
      by_cache v local shaped inside all
      (after_send (channels_at v local) (channels.Req core)
      (messages.Request (put_of (array_copy (cache_at v core) local)))) core cache v.log there
      (λ other within apart. others other apart) _ (further line.1 step.0) step.1

  -- An eviction.
  pub reached_evict : AreReached v → AreReached (after_evict v core local)
  reached_evict =
      let cache = cache_at v core in
      reached_leave (caches.after_evict cache local) (copy_of-after_evict cache local kept leaves)
      (copy_of-after_evict_other cache local kept leaves)
