-- An access that is performed, or that asks for its line, is a step of the line; one that joins or is handed out is
-- none.
use Rattle.std.proofs.Common.{◌≡◌, ◌≢◌, ℕ, ◌<◌, ◌≤◌, Bool, true, false, List, if◌then◌else◌, length, set, Some, None}
use Rattle.std.proofs.Common.{IsSome, IsSomeAnd, is_some, refl, sym, ap, ◌∙◌, subst, true≢false}
use Rattle.std.proofs.lemmas.List.{get_or-set_same, length-set, set-get_or}
use Rattle.address_map.specs.Place.{offset_of}
use Rattle.address_map.specs.declared.address.CoreId.{CoreId}
use Rattle.address_map.specs.declared.address.Local.{Local}
use Rattle.address_map.specs.declared.request.Op.{Op}
use Rattle.address_map.specs.declared.request.Op.TheVariants as ops
use Rattle.address_map.specs.declared.request.Request.{Request}
use Rattle.cache_array.proofs.Held.{removed_way}
use Rattle.cache_array.specs.Array.{held_at as array_at, HasWay}
use Rattle.cache_array.specs.Victim.{ShareSet}
use Rattle.cache_table.specs.Row.{row_of}
use Rattle.cache_table.specs.declared.row.CacheSends.{CacheSends}
use Rattle.cache_table.specs.declared.row.CacheSends.TheVariants as cache_sends
use Rattle.cache_table.specs.declared.row.Row.TheVariants as rows
use Rattle.cache_table.specs.declared.state.CopyState.{CopyState}
use Rattle.mshr_file.specs.declared.registers.Register.{Register}
use Rattle.protocol_coherence.specs.Line.{Line, Request as Asked}
use Rattle.protocol_coherence.specs.LineSteps.{Reached, asks_for, further}
use Rattle.slice_core_cache.proofs.Found.{changes-evict, kept-after_draw, copy_of-after_hit, copy_of-after_hit_other}
use Rattle.slice_core_cache.proofs.Found.{copy_of-after_open_free, copy_of-after_open_free_other}
use Rattle.slice_core_cache.proofs.Found.{copy_of-after_open_held, copy_of-after_open_held_other, copy_of-after_replace}
use Rattle.slice_core_cache.proofs.Found.{copy_of-after_replace_other, kept-after_replace}
use Rattle.slice_core_cache.specs.Access.{CanLeave, CanReplace, event_of}
use Rattle.slice_core_cache.specs.Copy.{may_leave}
use Rattle.slice_core_cache.specs.Kept.{IsKept}
use Rattle.slice_core_cache.specs.CoreCache.{CoreCacheView, array_copy, copy_of, state_of}
use Rattle.slice_core_cache.specs.Steps as caches
use Rattle.slice_core_cache.specs.declared.access.Ask.{Ask}
use Rattle.slice_core_cache.specs.declared.access.Ask.TheVariants as asks
use Rattle.slice_core_cache.specs.declared.access.Placement.{Placement}
use Rattle.slice_core_cache.specs.declared.access.Placement.TheVariants as placements
use Rattle.slice_core_cache.specs.declared.copy.CacheCopy.{CacheCopy}
use Rattle.slice_core_theory.proofs.Evictions.{passing, reached_leave}
use Rattle.slice_core_theory.proofs.Frame.{by_copy, by_number, by_same_copies, by_cache, read-set, same_local}
use Rattle.slice_core_theory.proofs.Frame.{with_copy_at}
use Rattle.slice_core_theory.proofs.OwnTurns.{IsOwn, StepStands, own_row, own_step}
use Rattle.slice_core_theory.specs.Stands.{AreReached, Stands, copies_at, kind_of_request}
use Rattle.slice_core_spec.specs.Steps.{after_hand, after_hit, after_join, after_open, after_opening, after_request}
use Rattle.slice_core_spec.specs.Steps.{request_of, with_way}
use Rattle.slice_core_spec.specs.View.{View, IsShaped, channels_at, entry_at, no_cache, cache_at, with_cache}
use Rattle.slice_queues.specs.Line.{LineChannels, after_send, core_at, empty_line, no_messages, with_core}
use Rattle.slice_queues.specs.declared.channel.Channel.TheVariants as channels
use Rattle.slice_queues.specs.declared.message.Message.TheVariants as messages
use Rattle.slice_queues.specs.declared.message.RequestMessage.{RequestMessage}
use Rattle.writeback_buffer.specs.Buffer.{held_at as buffer_at}

-- ---- rows

pub own_access : (op : Op) → IsOwn (event_of op)
own_access ops.Load = tt
own_access (ops.Store new) = tt
own_access (ops.Add increment) = tt
own_access (ops.Cas expect new) = tt

-- what a row sends for a miss
abbrev pub sends_for : Ask → CacheSends
sends_for asks.GetS = cache_sends.GetS
sends_for asks.GetM = cache_sends.GetM

pub request_for_ask : (ask : Ask) (waits : Asked) → kind_of_request (Some (request_of ask)) ≡ asks_for (sends_for
    ask) waits
request_for_ask asks.GetS waits = refl
request_for_ask asks.GetM waits = refl

-- Where the copy of a missed line is to be: it is there, or has a free way.
abbrev pub HasPlace : CoreCacheView → Local → Bool → Type 0
HasPlace cache local true = IsSome (array_at cache.array local)
HasPlace cache local false =
    (array_at cache.array local ≡ None) × (buffer_at cache.buffer.write_backs local.0 ≡ None) × HasWay cache.array local

-- What is known of the way that a miss takes.
abbrev pub HasPlaceFor : CoreCacheView → Local → Placement → Type 0
HasPlaceFor cache local placements.Held = HasPlace cache local true
HasPlaceFor cache local placements.Free = HasPlace cache local false
HasPlaceFor cache local placements.Victim = CanReplace cache local

-- ---- the copy that asks for its line

-- It has come to this state, has counted nothing, and the core's other copies are as they were.
pub record Opens (old new : CoreCacheView) (local : Local) (next : CopyState) : Type 0 where
  pub state : state_of new local ≡ next
  pub counted : (copy_of new local).counted ≡ 0
  pub others : (other : Local) → other.0 ≢ local.0 → copy_of new other ≡ copy_of old other

pub opens : (cache : CoreCacheView) (local : Local) (kept : IsKept cache) (held : Bool) → HasPlace cache local held
    → (next : CopyState) (request : Request) (misses : List Register)
    → Opens cache (caches.after_open cache local held next request misses) local next
opens cache local kept true place next request misses =
    let copy = copy_of-after_open_held cache local kept place next request misses in record {
      state = ap (λ (c : CacheCopy). c.state) copy;
      counted = ap (λ (c : CacheCopy). c.counted) copy;
      others = copy_of-after_open_held_other cache local kept place next request misses;
    }
opens cache local kept false place next request misses =
    let copy = copy_of-after_open_free cache local kept place.0 place.1 place.2 next request misses in record {
      state = ap (λ (c : CacheCopy). c.state) copy;
      counted = ap (λ (c : CacheCopy). c.counted) copy;
      others = copy_of-after_open_free_other cache local kept place.0 place.1 place.2 next request misses;
    }

-- ---- the steps

module _ (v : View) (core : CoreId) (local : Local) (shaped : IsShaped v) (most : length v.caches ≤ 64)
    (there : core.0 < length v.caches) (inside : local.0 < v.lines.lines) (kept : IsKept (cache_at v core)) where
  pub has_channels : core.0 < length (channels_at v local).cores
  has_channels = subst (λ n. core.0 < n) (sym (shaped.cores local inside)) there

  -- An access that hits is a step of its line.
  pub hit_step : (request : Request) (next : CopyState) → IsSome (array_at (cache_at v core).array local)
      → row_of (state_of (cache_at v core) local) (event_of request.op) ≡ rows.Go next cache_sends.Nothing →
      (line : Line)
      → Reached v.exclusive (length v.caches) line → Stands v local line
      → StepStands v.exclusive (length v.caches) (entry_at v local) (channels_at v local)
      (with_copy_at (copies_at v local) core.0
      (copy_of (caches.after_hit (cache_at v core) local (offset_of request.word).0 request.op next) local)) line
  hit_step request next held row line reached stands =
      let cache = cache_at v core in
      let mail = channels_at v local in
      let now = copy_of-after_hit cache local kept held (offset_of request.word).0 request.op next in
      let lawful = own_row (event_of request.op) (state_of cache local) next cache_sends.Nothing (own_access request.op)
      row in
      let same : with_core mail core.0 (core_at mail core.0) ≡ mail =
      ap (λ cores. record mail { cores = cores }) (set-get_or mail.cores core.0 no_messages) in
      subst (λ m. StepStands v.exclusive (length v.caches) (entry_at v local) m
      (with_copy_at (copies_at v local) core.0
      (copy_of (caches.after_hit cache local (offset_of request.word).0 request.op next) local)) line) same
      (own_step v.exclusive (length v.caches) (entry_at v local) mail (copies_at v local) core.0 (event_of request.op)
      next cache_sends.Nothing (copy_of (caches.after_hit cache local (offset_of request.word).0 request.op next) local)
      (core_at mail core.0).request line most there has_channels (own_access request.op) row
      (ap (λ (c : CacheCopy). c.state) now) refl (λ waits. absurd (true≢false (sym (lawful.asks waits)))) reached
      stands)

  -- So it leaves each line reached.
  pub reached_hit : (request : Request) (next : CopyState) → IsSome (array_at (cache_at v core).array local)
      → row_of (state_of (cache_at v core) local) (event_of request.op) ≡ rows.Go next cache_sends.Nothing →
      AreReached v
      → AreReached (after_hit v core request local next)
  reached_hit request next held row all =
      let cache = cache_at v core in
      let line = all local inside in
      let step = hit_step request next held row line.0 line.1 line.2 in
      by_copy v local shaped inside all core
      (caches.after_hit cache local (offset_of request.word).0 request.op next)
      (after_hit v core request local next).log there
      (λ other within apart.
      copy_of-after_hit_other cache local kept held (offset_of request.word).0 request.op next other apart) _
      (further line.1 step.0) step.1

  -- An access that asks for its line is a step of the line.
  unfoldable pub opening_step : (request : Request) (held : Bool) (next : CopyState) (ask : Ask) (misses : List
      Register)
      → HasPlace (cache_at v core) local held
      → row_of (state_of (cache_at v core) local) (event_of request.op) ≡ rows.Go next (sends_for ask) → (line : Line)
      → Reached v.exclusive (length v.caches) line → Stands v local line
      → StepStands v.exclusive (length v.caches) (entry_at v local)
      (after_send (channels_at v local) (channels.Req core) (messages.Request (request_of ask)))
      (with_copy_at (copies_at v local) core.0
      (copy_of (caches.after_open (cache_at v core) local held next request misses) local)) line
  opening_step request held next ask misses place row line reached stands =
      let cache = cache_at v core in
      let opening = opens cache local kept held place next request misses in
      own_step v.exclusive (length v.caches) (entry_at v local) (channels_at v local) (copies_at v local) core.0
      (event_of request.op) next (sends_for ask)
      (copy_of (caches.after_open cache local held next request misses) local) (Some (request_of ask)) line most there
      has_channels (own_access request.op) row opening.state (request_for_ask ask _) (λ waits. opening.counted) reached
      stands

  -- So it leaves each line reached.
  pub reached_opening : (request : Request) (held : Bool) (next : CopyState) (ask : Ask) (misses : List Register)
      → HasPlace (cache_at v core) local held
      → row_of (state_of (cache_at v core) local) (event_of request.op) ≡ rows.Go next (sends_for ask) → AreReached v
      → AreReached (after_opening v core request local held next ask misses)
  reached_opening request held next ask misses place row all =
      let cache = cache_at v core in
      let line = all local inside in
      let step = opening_step request held next ask misses place row line.0 line.1 line.2 in
      by_cache v local shaped inside all
      (after_send (channels_at v local) (channels.Req core) (messages.Request (request_of ask))) core
      (caches.after_open cache local held next request misses) v.log there
      (λ other within apart. (opens cache local kept held place next request misses).others other apart) _
      (further line.1 step.0) step.1

  -- A core that asks the directory for something leaves the slice its shape.
  pub shaped_asking : (cache : CoreCacheView) (message : RequestMessage)
      → IsShaped (after_request (with_cache v core cache) core local message)
  shaped_asking cache message = record {
    entries = shaped.entries;
    lines = length-set v.channels local.0 sent ∙ shaped.lines;
    cores = λ other within.
        ap (λ (l : LineChannels). length l.cores)
        (read-set v.channels local.0 other.0 sent (empty_line 0) (subst (λ n. local.0 < n) (sym shaped.lines) inside))
        ∙ by_number other.0 local.0
        (λ b. length (if b then sent else channels_at v other).cores ≡ length (set v.caches core.0 cache))
        (λ same. length-set (channels_at v local).cores core.0 _ ∙ shaped.cores local inside ∙ sized)
        (λ apart. shaped.cores other within ∙ sized);
  }
    where
      sent : LineChannels
      sent = after_send (channels_at v local) (channels.Req core) (messages.Request message)

      sized : length v.caches ≡ length (set v.caches core.0 cache)
      sized = sym (length-set v.caches core.0 cache)

-- ---- a line that leaves for another

-- The line that leaves for another may leave, shares its set, and is one of the slice.
pub record HasVictim (v : View) (core : CoreId) (local : Local) : Type 0 where
  pub goes : IsSomeAnd (array_at (cache_at v core).array (caches.victim_for (cache_at v core) local))
      (λ copy. may_leave copy.state ≡ true)
  pub shares : ShareSet (cache_at v core).array local (caches.victim_for (cache_at v core) local)
  pub inside : (caches.victim_for (cache_at v core) local).0 < v.lines.lines

-- what a miss needs of the victim that its way takes
abbrev pub HasVictimFor : View → CoreId → Local → Placement → Type 0
HasVictimFor v core local placements.Victim = HasVictim v core local
HasVictimFor v core local placement = Unit {0}

module _ (v : View) (core : CoreId) (local : Local) (shaped : IsShaped v) (most : length v.caches ≤ 64)
    (there : core.0 < length v.caches) (inside : local.0 < v.lines.lines) (kept : IsKept (cache_at v core)) where
  module _ (replaces : CanReplace (cache_at v core) local) (victim : HasVictim v core local) where
    abbrev left_line : Local
    left_line = caches.victim_for (cache_at v core) local

    abbrev replaced : CoreCacheView
    replaced = caches.after_replace (cache_at v core) local

    left_held : IsSome (array_at (cache_at v core).array left_line)
    left_held = (passing (λ (c : CacheCopy). may_leave c.state) (array_at (cache_at v core).array left_line)
        victim.goes).0

    pub can_leave : CanLeave (cache_at v core) left_line
    can_leave = record { held = victim.goes; room = replaces.room; absent = kept.apart left_line left_held }

    -- Lines of which the array holds one and not the other are two.
    pub is_another : local.0 ≢ left_line.0
    is_another same =
        true≢false (sym left_held
        ∙ ap is_some (ap (array_at (cache_at v core).array) (sym (same_local local left_line same)) ∙ replaces.absent))

    -- The victim's line is evicted.
    pub reached_replace : AreReached v → AreReached (with_way v core local placements.Victim)
    reached_replace =
        reached_leave v core left_line shaped most there victim.inside kept can_leave replaced
        (copy_of-after_replace (cache_at v core) local kept can_leave)
        (copy_of-after_replace_other (cache_at v core) local kept can_leave)

    -- Then the line has a way.
    pub has_way : HasPlace replaced local false
    has_way =
        let cache = cache_at v core in
        let changes = changes-evict (caches.after_draw cache) left_line (kept-after_draw cache kept)
        (record { held = can_leave.held; room = can_leave.room; absent = can_leave.absent }) in (
          changes.array_others local is_another ∙ replaces.absent,
          changes.buffer_others local is_another ∙ replaces.stays,
          removed_way cache.array left_line kept.array local (sym victim.shares) left_held,
        )

    pub cache_replaced : cache_at (with_way v core local placements.Victim) core ≡ replaced
    cache_replaced = get_or-set_same v.caches core.0 replaced no_cache there

    -- And the access asks for it.
    pub reached_opening_after : (request : Request) (next : CopyState) (ask : Ask) (misses : List Register)
        → row_of (state_of (cache_at v core) local) (event_of request.op) ≡ rows.Go next (sends_for ask) → AreReached v
        → AreReached (after_open v core request local placements.Victim next ask misses)
    reached_opening_after request next ask misses row all =
        let cache = cache_at v core in
        let put = caches.put_of (array_copy cache left_line) in
        let sized = length-set v.caches core.0 replaced in
        let copy = copy_of-after_replace_other cache local kept can_leave local is_another in
        reached_opening (with_way v core local placements.Victim) core local
        (shaped_asking v core left_line shaped most there victim.inside kept replaced put)
        (subst (λ n. n ≤ 64) (sym sized) most) (subst (λ n. core.0 < n) (sym sized) there) inside
        (subst IsKept (sym cache_replaced) (kept-after_replace cache local kept can_leave)) request false next ask
        misses
        (subst (λ (s : CoreCacheView). HasPlace s local false) (sym cache_replaced) has_way)
        (ap (λ (s : CoreCacheView). row_of (state_of s local) (event_of request.op)) cache_replaced
        ∙ ap (λ (c : CacheCopy). row_of c.state (event_of request.op)) copy ∙ row)
        (reached_replace all)

  -- An access that opens a miss register leaves each line reached.
  pub reached_open : (request : Request) (placement : Placement) (next : CopyState) (ask : Ask) (misses : List Register)
      → HasPlaceFor (cache_at v core) local placement → HasVictimFor v core local placement
      → row_of (state_of (cache_at v core) local) (event_of request.op) ≡ rows.Go next (sends_for ask) → AreReached v
      → AreReached (after_open v core request local placement next ask misses)
  reached_open request placements.Held next ask misses place victim row all =
      reached_opening v core local shaped most there inside kept request true next ask misses place row all
  reached_open request placements.Free next ask misses place victim row all =
      reached_opening v core local shaped most there inside kept request false next ask misses place row all
  reached_open request placements.Victim next ask misses place victim row all =
      reached_opening_after place victim request next ask misses row all

-- ---- what is no step

-- An access that joins its line's register changes no copy.
pub reached_join : (v : View) (core : CoreId) (request : Request) (misses : List Register) → core.0 < length v.caches
    → AreReached v → AreReached (after_join v core request misses)
reached_join v core request misses there all =
    by_same_copies v core (caches.after_join (cache_at v core) request misses) there (λ other. refl) all

-- Nor does a reply that is handed out.
pub reached_hand : (v : View) (core : CoreId) (tag : ℕ) → core.0 < length v.caches → AreReached v
    → AreReached (after_hand v core tag)
reached_hand v core tag there all =
    by_same_copies v core (caches.after_hand (cache_at v core) tag) there (λ other. refl) all
