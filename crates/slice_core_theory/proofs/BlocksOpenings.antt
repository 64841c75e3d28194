-- The blocks of the slice's lines after a line leaves, and after an access that asks for its line.
use Rattle.std.proofs.Common.{◌≡◌, ◌≢◌, ℕ, ◌<◌, ◌≤◌, ◌&&◌, Bool, true, false, not, if◌then◌else◌, List, length, Some}
use Rattle.std.proofs.Common.{None, refl, sym, ap, ◌∙◌, subst, true≢false}
use Rattle.std.proofs.lemmas.List.{length-set}
use Rattle.address_map.specs.declared.address.CoreId.{CoreId}
use Rattle.address_map.specs.declared.address.Local.{Local}
use Rattle.address_map.specs.declared.block.Block.{Block}
use Rattle.address_map.specs.declared.request.Op.{Op}
use Rattle.address_map.specs.declared.request.Op.TheVariants as ops
use Rattle.address_map.specs.declared.request.Request.{Request}
use Rattle.cache_array.specs.Array.{held_at as array_at}
use Rattle.cache_table.specs.CopyState.{is_writer}
use Rattle.cache_table.specs.Law.{brings_data, sends_get, sends_put_m}
use Rattle.cache_table.specs.Row.{row_of}
use Rattle.cache_table.specs.declared.row.CacheEvent.TheVariants as cache_events
use Rattle.cache_table.specs.declared.row.CacheSends.{CacheSends}
use Rattle.cache_table.specs.declared.row.CacheSends.TheVariants as cache_sends
use Rattle.cache_table.specs.declared.row.Row.TheVariants as rows
use Rattle.cache_table.specs.declared.state.CopyState.{CopyState}
use Rattle.cache_table.specs.declared.state.CopyState.TheVariants as copy_states
use Rattle.mshr_file.specs.declared.registers.Register.{Register}
use Rattle.protocol_coherence.proofs.Each.{each_state, each_state-at, if_go, if_go-at, if_so, if_so-at, left, not-at}
use Rattle.protocol_coherence.proofs.Each.{right}
use Rattle.protocol_coherence.specs.Values.{performs}
use Rattle.slice_core_cache.proofs.Found.{copy_of-after_evict, copy_of-after_evict_other, copy_of-after_open_held}
use Rattle.slice_core_cache.proofs.Found.{copy_of-after_replace, copy_of-after_replace_other, copy_of-held}
use Rattle.slice_core_cache.proofs.Found.{kept-after_replace}
use Rattle.slice_core_cache.specs.Access.{CanLeave, CanReplace, event_of}
use Rattle.slice_core_cache.specs.Copy.{found_in, leaving_copy, may_leave}
use Rattle.slice_core_cache.specs.Kept.{IsKept}
use Rattle.slice_core_cache.specs.CoreCache.{CoreCacheView, array_copy, copy_of, state_of}
use Rattle.slice_core_cache.specs.Steps as caches
use Rattle.slice_core_cache.specs.Steps.{leaving_after_evict, next_by, put_by, put_of}
use Rattle.slice_core_cache.specs.declared.access.Ask.{Ask}
use Rattle.slice_core_cache.specs.declared.access.Ask.TheVariants as asks
use Rattle.slice_core_cache.specs.declared.access.Placement.{Placement}
use Rattle.slice_core_cache.specs.declared.access.Placement.TheVariants as placements
use Rattle.slice_core_cache.specs.declared.copy.CacheCopy.{CacheCopy}
use Rattle.slice_core_theory.proofs.Accesses.{HasPlace, HasPlaceFor, HasVictim, HasVictimFor, can_leave}
use Rattle.slice_core_theory.proofs.Accesses.{has_channels, has_way, is_another, opens, own_access, request_for_ask}
use Rattle.slice_core_theory.proofs.Accesses.{sends_for, shaped_asking, cache_replaced}
use Rattle.slice_core_theory.proofs.BlocksFrame.{by_same_copies_with, by_cache_with}
use Rattle.slice_core_theory.proofs.BlocksPerforming.{brings_none}
use Rattle.slice_core_theory.proofs.BlocksOwn.{own_reached}
use Rattle.slice_core_theory.proofs.BlocksTurns.{put_after}
use Rattle.slice_core_theory.proofs.Evictions.{leaves_by, passing}
use Rattle.slice_core_theory.proofs.Frame.{with_copy_at}
use Rattle.slice_core_theory.specs.Blocks.{AreReachedWith, HasValues, IsReachedWith, LineReachedWith, has_block}
use Rattle.slice_core_theory.specs.Stands.{copies_at}
use Rattle.slice_core_spec.specs.Steps.{after_evict, after_hand, after_join, after_open, after_opening, after_request}
use Rattle.slice_core_spec.specs.Steps.{block_in, request_of, with_way}
use Rattle.slice_core_spec.specs.View.{View, IsShaped, channels_at, entry_at, first_word, cache_at, with_cache}
use Rattle.slice_log.specs.Log.{initially}
use Rattle.slice_queues.specs.Line.{after_send}
use Rattle.slice_queues.specs.declared.channel.Channel.TheVariants as channels
use Rattle.slice_queues.specs.declared.message.Message.TheVariants as messages
use Rattle.writeback_buffer.specs.Buffer.{held_at as buffer_at}

-- ---- a line that leaves

-- A copy that may leave has a block.
leaving_has_block : (state : CopyState) → may_leave state ≡ true → has_block state ≡ true
unfolding each_state if_so
leaving_has_block state may =
    if_so-at (may_leave state) (λ _. has_block state)
    (each_state-at (λ s. if_so (may_leave s) (λ _. has_block s)) refl state) may

-- The block that goes along with a Put is the copy's, or none does.
put_carries : (sent : CacheSends) (next : CopyState) (block kept put : Block) → block ≡ kept
    → block_in (if sends_put_m sent then kept else put) (Some (put_by block (rows.Go next sent)))
    ≡ (if sends_put_m sent then kept else put)
put_carries cache_sends.PutM next block kept put same = same
put_carries _ next block kept put same = refl

module _ (v : View) (core : CoreId) (local : Local) (shaped : IsShaped v) (most : length v.caches ≤ 64)
    (there : core.0 < length v.caches) (inside : local.0 < v.lines.lines) (kept : IsKept (cache_at v core))
    (leaves : CanLeave (cache_at v core) local) where
  -- The line after a copy has left.
  leave_reached : (now : CacheCopy) → now ≡ leaving_copy (leaving_after_evict (copy_of (cache_at v core) local))
      → IsReachedWith v local
      → LineReachedWith v.exclusive (length v.caches) (initially v.init) v.log (first_word v local) (entry_at v local)
      (after_send (channels_at v local) (channels.Req core)
      (messages.Request (put_of (array_copy (cache_at v core) local))))
      (with_copy_at (copies_at v local) core.0 now)
  leave_reached now is line =
      let cache = cache_at v core in
      let copy = array_copy cache local in
      let held = passing (λ (c : CacheCopy). may_leave c.state) (array_at cache.array local) leaves.held in
      let by = leaves_by copy.block copy.state held.1 in
      let next = next_by copy.state (row_of copy.state cache_events.Eviction) in
      let same : copy_of cache local ≡ copy = copy_of-held cache local kept held.0 in
      let is_next : now.state ≡ next =
      ap (λ (c : CacheCopy). c.state) is ∙ ap (λ (c : CacheCopy). (leaving_after_evict c).state) same in
      let block : copy.block ≡ line.blocks.copy core.0 =
      sym (ap (λ (c : CacheCopy). c.block) same)
      ∙ (line.blocks_stand.core core.0 there).in_copy
      (ap (λ (c : CacheCopy). has_block c.state) same ∙ leaving_has_block copy.state held.1) in
      own_reached v.exclusive (length v.caches) (initially v.init) v.log v.log (first_word v local) (entry_at v local)
      (channels_at v local) (copies_at v local) core.0 cache_events.Eviction next by.sent now (Some (put_of copy))
      line.newest
      line most there (has_channels v core local shaped most there inside kept) tt
      (ap (λ (c : CacheCopy). row_of c.state cache_events.Eviction) same ∙ by.row) is_next (by.put _)
      (λ waits. ap (λ (c : CacheCopy). c.counted) is)
      (λ has. ap (λ (c : CacheCopy). c.block) is ∙ ap (λ (c : CacheCopy). c.block) same ∙ block)
      (subst (λ r. block_in (put_after by.sent (line.blocks.copy core.0) (line.blocks.put core.0)) (Some (put_by
      copy.block r))
      ≡ put_after by.sent (line.blocks.copy core.0) (line.blocks.put core.0)) (sym by.row)
      (put_carries by.sent next copy.block (line.blocks.copy core.0) (line.blocks.put core.0) block))
      line.has_values

  -- A line that leaves a core leaves each line reached, blocks and all, whatever else of the core is another.
  pub leave_keeps : (cache : CoreCacheView) → copy_of cache local
      ≡ leaving_copy (leaving_after_evict (copy_of (cache_at v core) local))
      → ((other : Local) → other.0 ≢ local.0 → copy_of cache other ≡ copy_of (cache_at v core) other) → AreReachedWith v
      → AreReachedWith
      (after_request (with_cache v core cache) core local (put_of (array_copy (cache_at v core) local)))
  leave_keeps cache is others all =
      by_cache_with v local shaped inside all v.log (λ other within apart block has. has)
      (after_send (channels_at v local) (channels.Req core)
      (messages.Request (put_of (array_copy (cache_at v core) local)))) core cache there
      (λ other within apart. others other apart) (leave_reached (copy_of cache local) is (all local inside))

  -- So does an eviction.
  pub evict_keeps : AreReachedWith v → AreReachedWith (after_evict v core local)
  evict_keeps =
      let cache = cache_at v core in
      leave_keeps (caches.after_evict cache local) (copy_of-after_evict cache local kept leaves)
      (copy_of-after_evict_other cache local kept leaves)

-- ---- a copy that asks for its line

-- It performs nothing, and has a block only where it had one.
record AsksAlone (state next : CopyState) : Type 0 where
  still : is_writer next ≡ false
  had : has_block next ≡ true → has_block state ≡ true

unfoldable asks_alone : CopyState → CopyState → CacheSends → Bool
asks_alone state next sent =
    if_so (sends_get sent) (λ _. not (is_writer next) && if_so (has_block next) (λ _. has_block state))

each_load_asks : each_state (λ s. if_go (row_of s cache_events.Load) (asks_alone s)) ≡ true
unfolding each_state if_go if_so asks_alone
each_load_asks = refl

each_write_asks : each_state (λ s. if_go (row_of s cache_events.Write) (asks_alone s)) ≡ true
unfolding each_state if_go if_so asks_alone
each_write_asks = refl

access_asks : (op : Op) (state : CopyState) → if_go (row_of state (event_of op)) (asks_alone state) ≡ true
access_asks ops.Load = each_state-at (λ s. if_go (row_of s cache_events.Load) (asks_alone s)) each_load_asks
access_asks (ops.Store new) = each_state-at (λ s. if_go (row_of s cache_events.Write) (asks_alone s)) each_write_asks
access_asks (ops.Add increment) =
    each_state-at (λ s. if_go (row_of s cache_events.Write) (asks_alone s)) each_write_asks
access_asks (ops.Cas expect new) =
    each_state-at (λ s. if_go (row_of s cache_events.Write) (asks_alone s)) each_write_asks

sends_a_get : (ask : Ask) → sends_get (sends_for ask) ≡ true
sends_a_get asks.GetS = refl
sends_a_get asks.GetM = refl

asking : (op : Op) (state next : CopyState) (ask : Ask) → row_of state (event_of op) ≡ rows.Go next (sends_for ask)
    → AsksAlone state next
unfolding asks_alone
asking op state next ask row =
    let all = if_so-at (sends_get (sends_for ask))
    (λ _. not (is_writer next) && if_so (has_block next) (λ _. has_block state))
    (if_go-at (row_of state (event_of op)) (asks_alone state) next (sends_for ask) (access_asks op state) row)
    (sends_a_get ask) in
    record {
      still = not-at _ (left _ _ all);
      had = λ has. if_so-at (has_block next) (λ _. has_block state) (right (not (is_writer next)) _ all) has;
    }

performs_none : (op : Op) (next : CopyState) → is_writer next ≡ false → performs (event_of op) next ≡ false
performs_none ops.Load next still = refl
performs_none (ops.Store new) next still = still
performs_none (ops.Add increment) next still = still
performs_none (ops.Cas expect new) next still = still

-- A row that asks for a line sends no block.
asks_carry : (ask : Ask) (kept put : Block)
    → block_in (put_after (sends_for ask) kept put) (Some (request_of ask)) ≡ put_after (sends_for ask) kept put
asks_carry asks.GetS kept put = refl
asks_carry asks.GetM kept put = refl

-- A copy that had a block keeps it as it asks for its line.
opened_block : (cache : CoreCacheView) (local : Local) → IsKept cache → (held : Bool) → HasPlace cache local held
    → (next : CopyState) (request : Request) (misses : List Register) → has_block (state_of cache local) ≡ true
    → (copy_of (caches.after_open cache local held next request misses) local).block ≡ (copy_of cache local).block
opened_block cache local kept true place next request misses had =
    ap (λ (c : CacheCopy). c.block) (copy_of-after_open_held cache local kept place next request misses)
opened_block cache local kept false place next request misses had =
    let none : state_of cache local ≡ copy_states.I =
    ap (λ o. (found_in o (buffer_at cache.buffer.write_backs local.0)).state) place.0
    ∙ ap (λ l. (found_in None l).state) place.1 in
    absurd (true≢false (sym had ∙ ap has_block none))

module _ (v : View) (core : CoreId) (local : Local) (shaped : IsShaped v) (most : length v.caches ≤ 64)
    (there : core.0 < length v.caches) (inside : local.0 < v.lines.lines) (kept : IsKept (cache_at v core)) where
  -- The line after an access has asked for it.
  opening_reached : (request : Request) (held : Bool) (next : CopyState) (ask : Ask) (misses : List Register)
      → HasPlace (cache_at v core) local held
      → row_of (state_of (cache_at v core) local) (event_of request.op) ≡ rows.Go next (sends_for ask)
      → IsReachedWith v local
      → LineReachedWith v.exclusive (length v.caches) (initially v.init) v.log (first_word v local) (entry_at v local)
      (after_send (channels_at v local) (channels.Req core) (messages.Request (request_of ask)))
      (with_copy_at (copies_at v local) core.0
      (copy_of (caches.after_open (cache_at v core) local held next request misses) local))
  opening_reached request held next ask misses place row line =
      let cache = cache_at v core in
      let opening = opens cache local kept held place next request misses in
      let alone = asking request.op (state_of cache local) next ask row in
      let none = performs_none request.op next alone.still in
      own_reached v.exclusive (length v.caches) (initially v.init) v.log v.log (first_word v local) (entry_at v local)
      (channels_at v local) (copies_at v local) core.0 (event_of request.op) next (sends_for ask)
      (copy_of (caches.after_open cache local held next request misses) local) (Some (request_of ask)) line.newest line
      most there (has_channels v core local shaped most there inside kept) (own_access request.op) row opening.state
      (request_for_ask ask _) (λ waits. opening.counted)
      (λ has. opened_block cache local kept held place next request misses (alone.had has)
      ∙ (line.blocks_stand.core core.0 there).in_copy (alone.had has)
      ∙ sym (ap (λ b. if b then line.newest else if brings_data (event_of request.op) then line.blocks.arriving core.0
      else line.blocks.copy core.0) none
      ∙ ap (λ b. if b then line.blocks.arriving core.0 else line.blocks.copy core.0) (brings_none request.op)))
      (asks_carry ask (line.blocks.copy core.0) (line.blocks.put core.0))
      (subst (λ b. HasValues (initially v.init) v.log (first_word v local) (if b then line.newest else line.newest))
      (sym none) line.has_values)

  -- It leaves each line reached, blocks and all.
  pub opening_keeps : (request : Request) (held : Bool) (next : CopyState) (ask : Ask) (misses : List Register)
      → HasPlace (cache_at v core) local held
      → row_of (state_of (cache_at v core) local) (event_of request.op) ≡ rows.Go next (sends_for ask)
      → AreReachedWith v → AreReachedWith (after_opening v core request local held next ask misses)
  opening_keeps request held next ask misses place row all =
      by_cache_with v local shaped inside all v.log (λ other within apart block has. has)
      (after_send (channels_at v local) (channels.Req core) (messages.Request (request_of ask))) core
      (caches.after_open (cache_at v core) local held next request misses) there
      (λ other within apart. (opens (cache_at v core) local kept held place next request misses).others other apart)
      (opening_reached request held next ask misses place row (all local inside))

module _ (v : View) (core : CoreId) (local : Local) (shaped : IsShaped v) (most : length v.caches ≤ 64)
    (there : core.0 < length v.caches) (inside : local.0 < v.lines.lines) (kept : IsKept (cache_at v core)) where
  -- An access for which a line leaves, too.
  replacing_keeps : CanReplace (cache_at v core) local → HasVictim v core local → (request : Request)
      (next : CopyState) (ask : Ask) (misses : List Register)
      → row_of (state_of (cache_at v core) local) (event_of request.op) ≡ rows.Go next (sends_for ask)
      → AreReachedWith v → AreReachedWith (after_open v core request local placements.Victim next ask misses)
  replacing_keeps replaces victim request next ask misses row all =
      let cache = cache_at v core in
      let gone = caches.victim_for cache local in
      let replaced = caches.after_replace cache local in
      let put = put_of (array_copy cache gone) in
      let leaves = can_leave v core local shaped most there inside kept replaces victim in
      let same = cache_replaced v core local shaped most there inside kept replaces victim in
      let sized = length-set v.caches core.0 replaced in
      let copy = copy_of-after_replace_other cache local kept leaves local
      (is_another v core local shaped most there inside kept replaces victim) in
      opening_keeps (with_way v core local placements.Victim) core local
      (shaped_asking v core gone shaped most there victim.inside kept replaced put)
      (subst (λ n. n ≤ 64) (sym sized) most) (subst (λ n. core.0 < n) (sym sized) there) inside
      (subst IsKept (sym same) (kept-after_replace cache local kept leaves)) request false next ask misses
      (subst (λ (s : CoreCacheView). HasPlace s local false) (sym same)
      (has_way v core local shaped most there inside kept replaces victim))
      (ap (λ (s : CoreCacheView). row_of (state_of s local) (event_of request.op)) same
      ∙ ap (λ (c : CacheCopy). row_of c.state (event_of request.op)) copy ∙ row)
      (leave_keeps v core gone shaped most there victim.inside kept leaves replaced
      (copy_of-after_replace cache local kept leaves) (copy_of-after_replace_other cache local kept leaves) all)

  -- An access that opens a miss register leaves each line reached, blocks and all.
  pub open_keeps : (request : Request) (placement : Placement) (next : CopyState) (ask : Ask) (misses : List Register)
      → HasPlaceFor (cache_at v core) local placement → HasVictimFor v core local placement
      → row_of (state_of (cache_at v core) local) (event_of request.op) ≡ rows.Go next (sends_for ask)
      → AreReachedWith v → AreReachedWith (after_open v core request local placement next ask misses)
  open_keeps request placements.Held next ask misses place victim row all =
      opening_keeps v core local shaped most there inside kept request true next ask misses place row all
  open_keeps request placements.Free next ask misses place victim row all =
      opening_keeps v core local shaped most there inside kept request false next ask misses place row all
  open_keeps request placements.Victim next ask misses place victim row all =
      replacing_keeps place victim request next ask misses row all

-- ---- what is no step

-- An access that joins its line's register changes no copy, and no block.
pub join_keeps : (v : View) (core : CoreId) (request : Request) (misses : List Register) → core.0 < length v.caches
    → AreReachedWith v → AreReachedWith (after_join v core request misses)
join_keeps v core request misses there all =
    by_same_copies_with v core (caches.after_join (cache_at v core) request misses) there (λ other. refl) all

-- Nor does a reply that is handed out.
pub hand_keeps : (v : View) (core : CoreId) (tag : ℕ) → core.0 < length v.caches → AreReachedWith v
    → AreReachedWith (after_hand v core tag)
hand_keeps v core tag there all =
    by_same_copies_with v core (caches.after_hand (cache_at v core) tag) there (λ other. refl) all
