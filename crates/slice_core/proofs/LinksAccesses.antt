-- Accesses and evictions keep what copies, registers and requests owe each other.
use Rattle.std.proofs.Common.{◌≡◌, ◌≢◌, ℕ, ◌<◌, ◌≤◌, Bool, true, false, List, length, set, Option, Some, None, IsSome}
use Rattle.std.proofs.Common.{IfSome, IsSomeAnd, unwrap_or, refl, sym, ap, ◌∙◌, subst}
use Rattle.std.proofs.lemmas.List.{length-set}
use Rattle.address_map.specs.Place.{offset_of}
use Rattle.address_map.specs.declared.address.CoreId.{CoreId}
use Rattle.address_map.specs.declared.address.Local.{Local}
use Rattle.address_map.specs.declared.request.Request.{Request}
use Rattle.cache_array.specs.Array.{held_at as array_at}
use Rattle.cache_table.specs.CopyState.{is_leaving, is_waiting}
use Rattle.cache_table.specs.Row.{row_of}
use Rattle.cache_table.specs.declared.row.CacheSends.TheVariants as cache_sends
use Rattle.cache_table.specs.declared.row.Row.TheVariants as rows
use Rattle.cache_table.specs.declared.state.CopyState.{CopyState}
use Rattle.mshr_file.proofs.Changes.{has_miss-added}
use Rattle.mshr_file.specs.Miss.{AddsTarget, has_miss, targets_of}
use Rattle.mshr_file.specs.declared.registers.Register.{Register}
use Rattle.slice_core_theory.proofs.Accesses.{can_leave, has_way, sends_for, cache_replaced, HasPlace, HasPlaceFor}
use Rattle.slice_core_theory.proofs.Accesses.{HasVictim, HasVictimFor}
use Rattle.slice_core_spec.specs.Steps.{after_evict, after_hand, after_hit, after_join, after_open, after_opening}
use Rattle.slice_core_spec.specs.Steps.{after_request, request_of, with_way}
use Rattle.slice_core_spec.specs.View.{View, channels_at, entry_at, no_cache, cache_at, with_cache, IsShaped}
use Rattle.slice_core_cache.proofs.Found.{changes-evict, changes-hit, changes-open_free, changes-open_held}
use Rattle.slice_core_cache.proofs.Found.{kept-after_draw, kept-after_hand}
use Rattle.slice_core_cache.proofs.Lines.{ChangesLine, FitsIn}
use Rattle.slice_core_cache.specs.Access.{event_of, CanLeave, CanReplace}
use Rattle.slice_core_cache.specs.Copy.{found_in, may_leave, missing_copy, no_copy, performed_on}
use Rattle.slice_core_cache.specs.Kept.{IsKept, stands_in_array}
use Rattle.slice_core_cache.specs.CoreCache.{CoreCacheView, array_copy, state_of}
use Rattle.slice_core_cache.specs.Steps as caches
use Rattle.slice_core_cache.specs.Steps.{leaving_after_evict}
use Rattle.slice_core_cache.specs.declared.access.Ask.{Ask}
use Rattle.slice_core_cache.specs.declared.access.Placement.{Placement}
use Rattle.slice_core_cache.specs.declared.access.Placement.TheVariants as placements
use Rattle.slice_core_cache.specs.declared.copy.CacheCopy.{CacheCopy}
use Rattle.slice_core.proofs.LinksFrame.{links_logged, links_cache, links_step, placed}
use Rattle.slice_core.proofs.LinksRequests.{asked, asked-sent, asked-sent_other}
use Rattle.slice_core.proofs.LinksAsking.{hits_on, leaves_by, opens_to, OpensTo}
use Rattle.slice_core.specs.Sound.{HasLinks, has_sent}
use Rattle.slice_queues.specs.Line.{LineChannels, after_send, empty_line}
use Rattle.slice_queues.specs.declared.channel.Channel.TheVariants as channels
use Rattle.slice_queues.specs.declared.message.Message.TheVariants as messages
use Rattle.slice_queues.specs.declared.message.RequestMessage.{RequestMessage}
use Rattle.target_list.specs.declared.target.Target.{Target}
use Rattle.writeback_buffer.specs.Buffer.{held_at as buffer_at}
use Rattle.writeback_buffer.specs.declared.pending.Leaving.{Leaving}

-- what array and buffer of a core hold of a line fits
pub fits_now : (cache : CoreCacheView) (local : Local) → IsKept cache →
    FitsIn (array_at cache.array local) (buffer_at cache.buffer.write_backs local.0)
fits_now cache local kept =
    by (array_at cache.array local) (buffer_at cache.buffer.write_backs local.0) (kept.apart local) (kept.held local)
    (kept.leaving local)
  where
    by : (copy : Option CacheCopy) (leaving : Option Leaving) → (IsSome copy → leaving ≡ None) →
        IfSome copy (λ c. stands_in_array c.state ≡ true) → IfSome leaving (λ l. is_leaving l.state ≡ true) →
        FitsIn copy leaving
    by (Some copy) (Some leaving) apart held leaves = let none = apart refl in absurd (cc none)
    by (Some copy) None apart held leaves = held
    by None (Some leaving) apart held leaves = leaves
    by None None apart held leaves = tt

-- a core with the same array and buffer has the same copies
same_copies : (old new : CoreCacheView) (local : Local) → IsKept old → new.array ≡ old.array → new.buffer ≡ old.buffer →
    ChangesLine old new local (array_at old.array local) (buffer_at old.buffer.write_backs local.0)
same_copies old new local kept array buffer = record {
  in_array = ap (λ a. array_at a local) array;
  in_buffer = ap (λ b. buffer_at b.write_backs local.0) buffer;
  array_others = λ other apart. ap (λ a. array_at a other) array;
  buffer_others = λ other apart. ap (λ b. buffer_at b.write_backs other.0) buffer;
  array_sound = rw array kept.array;
  buffer_sound = rw buffer kept.buffer;
}

-- a copy that is there is the one in the array
held_copy : (cache : CoreCacheView) (local : Local) (copy : CacheCopy) → array_at cache.array local ≡ Some copy →
    state_of cache local ≡ copy.state
held_copy cache local copy is = ap (λ o. (found_in o (buffer_at cache.buffer.write_backs local.0)).state) is

module _ (v : View) (core : CoreId) (local : Local) (shaped : IsShaped v) (links : HasLinks v)
    (there : core.0 < length v.caches) (within : local.0 < v.lines.lines) where
  -- the line has channels for the core
  pub has_channels : core.0 < length (channels_at v local).cores
  has_channels = subst (λ n. core.0 < n) (sym (shaped.cores local within)) there

  -- An access that hits keeps the links.
  pub links_hit : (request : Request) (next : CopyState) → IsSome (array_at (cache_at v core).array local) →
      row_of (state_of (cache_at v core) local) (event_of request.op) ≡ rows.Go next cache_sends.Nothing →
      HasLinks (after_hit v core request local next)
  links_hit request next held row =
      let cache = cache_at v core in
      let offset = (offset_of request.word).0 in
      let on = hits_on request.op (state_of cache local) next (asked (channels_at v local) core.0) row in
      links_logged _ _
      (links_cache v core local (caches.after_hit cache local offset request.op next)
      (Some (record (array_copy cache local) {
        block =
            performed_on (array_copy cache local).block offset request.op;
        state = next;
      })) None
      (record {
        changes = changes-hit cache local (links.kept core there) held offset request.op next;
        fits = on.stands;
        misses = λ other apart. refl;
        requests = λ other apart. refl;
        waits = on.waits ∙ links.waits core local there;
        sent = on.sent (links.sent core local there within);
      })
      shaped links there within)

  -- An access that joins the line's register keeps the links.
  pub links_join : (request : Request) (misses : List Register) (target : Target) →
      has_miss (cache_at v core).misses local.0 ≡ true → AddsTarget (cache_at v core).misses misses local.0 target →
      HasLinks (after_join v core request misses)
  links_join request misses target waits adds =
      let cache = cache_at v core in
      let kept = links.kept core there in
      links_cache v core local (caches.after_join cache request misses) (array_at cache.array local)
      (buffer_at cache.buffer.write_backs local.0)
      (record {
        changes = same_copies cache (caches.after_join cache request misses) local kept refl refl;
        fits = fits_now cache local kept;
        misses = adds.others;
        requests = λ other apart. refl;
        waits = links.waits core local there ∙ waits
            ∙ sym (has_miss-added cache.misses misses local.0 target adds);
        sent = links.sent core local there within;
      })
      shaped links there within

  -- a core that asks the directory for the line has asked what its copy is to have asked for
  links_asking : (cache : CoreCacheView) (copy : Option CacheCopy) (leaving : Option Leaving) (message : RequestMessage)
      →
      ChangesLine (cache_at v core) cache local copy leaving → FitsIn copy leaving →
      ((other : ℕ) → other ≢ local.0 → targets_of cache.misses other ≡ targets_of (cache_at v core).misses other) →
      is_waiting (found_in copy leaving).state ≡ has_miss cache.misses local.0 →
      has_sent (found_in copy leaving).state (Some message) ≡ true →
      HasLinks (after_request (with_cache v core cache) core local message)
  links_asking cache copy leaving message changes fits misses waits sent =
      let line = channels_at v local in
      links_step v core local cache (after_send line (channels.Req core) (messages.Request message)) copy leaving
      (record {
        changes = changes;
        fits = fits;
        misses = misses;
        requests = λ other apart. asked-sent_other line core other apart message;
        waits = waits;
        sent = ap (has_sent (found_in copy leaving).state) (asked-sent line core has_channels message) ∙ sent;
      })
      shaped links there within

  -- and the slice keeps its shape
  shaped_asking : (cache : CoreCacheView) (message : RequestMessage) →
      IsShaped (after_request (with_cache v core cache) core local message)
  shaped_asking cache message =
      let line = channels_at v local in
      let sent = after_send line (channels.Req core) (messages.Request message) in record {
        entries = shaped.entries;
        lines = length-set v.channels local.0 sent ∙ shaped.lines;
        cores = λ other inside.
            placed (λ (l : LineChannels). length l.cores ≡ length (set v.caches core.0 cache)) v.channels local.0
            other.0 sent (empty_line 0)
            (subst (λ n. local.0 < n) (sym shaped.lines) within)
            (λ same. length-set line.cores core.0 _ ∙ shaped.cores local within
            ∙ sym (length-set v.caches core.0 cache))
            (λ apart. shaped.cores other inside ∙ sym (length-set v.caches core.0 cache));
      }

  -- An access that opens a register keeps the links, once its line has a way.
  pub links_opening : (request : Request) (held : Bool) (next : CopyState) (ask : Ask) (misses : List Register)
      (target : Target) →
      OpensTo next ask → HasPlace (cache_at v core) local held →
      AddsTarget (cache_at v core).misses misses local.0 target →
      HasLinks (after_opening v core request local held next ask misses)
  links_opening request true next ask misses target opens place adds =
      let cache = cache_at v core in
      links_asking (caches.after_open cache local true next request misses)
      (Some (record (array_copy cache local) { state = next; wants = 0; counted = 0 })) None (request_of ask)
      (changes-open_held cache local (links.kept core there) place next request misses) opens.stands adds.others
      (opens.waits ∙ sym (has_miss-added cache.misses misses local.0 target adds)) opens.sent
  links_opening request false next ask misses target opens place adds =
      let cache = cache_at v core in
      links_asking (caches.after_open cache local false next request misses) (Some (missing_copy next)) None
      (request_of ask)
      (changes-open_free cache local (links.kept core there) place.0 place.1 place.2 next request misses) opens.stands
      adds.others
      (opens.waits ∙ sym (has_miss-added cache.misses misses local.0 target adds)) opens.sent

-- ---- lines that leave

-- what passes is there, and passes
passing : (test : CacheCopy → Bool) (o : Option CacheCopy) → IsSomeAnd o (λ copy. test copy ≡ true) →
    (o ≡ Some (unwrap_or o no_copy)) × (test (unwrap_or o no_copy) ≡ true)
passing test None passes = absurd passes
passing test (Some copy) passes = (refl, passes)

module _ (v : View) (core : CoreId) (local : Local) (shaped : IsShaped v) (links : HasLinks v)
    (there : core.0 < length v.caches) (within : local.0 < v.lines.lines) (leaves : CanLeave (cache_at v core) local)
  where
    -- a core in which the line has left, and which has the same misses, has notified the directory
    links_leaving : (cache : CoreCacheView) → cache.misses ≡ (cache_at v core).misses →
        ChangesLine (cache_at v core) cache local None (Some (leaving_after_evict (array_copy (cache_at v core) local)))
        →
        HasLinks (after_request (with_cache v core cache) core local
        (caches.put_of (array_copy (cache_at v core) local)))
    links_leaving cache misses changes =
        let old = cache_at v core in
        let copy = array_copy old local in
        let may = passing (λ (c : CacheCopy). may_leave c.state) (array_at old.array local) leaves.held in
        let by = leaves_by copy.block copy.state may.1 in
        let state = held_copy old local copy may.0 in
        links_asking v core local shaped links there within cache None (Some (leaving_after_evict copy))
        (caches.put_of copy) changes
        by.leaving
        (λ other apart. ap (λ m. targets_of m other) misses)
        (by.waits ∙ sym by.idle ∙ sym (ap is_waiting state) ∙ links.waits core local there
        ∙ ap (λ m. has_miss m local.0) (sym misses))
        by.sent

    -- An eviction keeps the links.
    pub links_evict : HasLinks (after_evict v core local)
    links_evict =
        let cache = cache_at v core in
        links_leaving (caches.after_evict cache local) refl (changes-evict cache local (links.kept core there) leaves)

-- ---- a miss, with its way

module _ (v : View) (core : CoreId) (local : Local) (shaped : IsShaped v) (few : length v.caches ≤ 64)
    (links : HasLinks v) (there : core.0 < length v.caches) (within : local.0 < v.lines.lines) where
  -- a victim that is evicted for the line keeps the links
  module _ (replaces : CanReplace (cache_at v core) local) (victim : HasVictim v core local) where
    abbrev left : Local
    left = caches.victim_for (cache_at v core) local

    leaves : CanLeave (cache_at v core) left
    leaves = can_leave v core local shaped few there within (links.kept core there) replaces victim

    -- of its line array and buffer hold what an eviction leaves
    changes-replace : ChangesLine (cache_at v core) (caches.after_replace (cache_at v core) local) left None
        (Some (leaving_after_evict (array_copy (cache_at v core) left)))
    changes-replace =
        let c = changes-evict (caches.after_draw (cache_at v core)) left
        (kept-after_draw (cache_at v core) (links.kept core there))
        (record { held = leaves.held; room = leaves.room; absent = leaves.absent }) in record {
          in_array = c.in_array;
          in_buffer = c.in_buffer;
          array_others = c.array_others;
          buffer_others = c.buffer_others;
          array_sound = c.array_sound;
          buffer_sound = c.buffer_sound;
        }

    links_replace : HasLinks (with_way v core local placements.Victim)
    links_replace =
        links_leaving v core left shaped links there victim.inside leaves (caches.after_replace (cache_at v core) local)
        refl changes-replace

    shaped_replace : IsShaped (with_way v core local placements.Victim)
    shaped_replace =
        let cache = cache_at v core in
        shaped_asking v core left shaped links there victim.inside (caches.after_replace cache local)
        (caches.put_of (array_copy cache left))

  -- An access that opens a register keeps the links.
  pub links_open : (request : Request) (placement : Placement) (next : CopyState) (ask : Ask) (misses : List Register)
      (target : Target) → HasPlaceFor (cache_at v core) local placement → HasVictimFor v core local placement →
      row_of (state_of (cache_at v core) local) (event_of request.op) ≡ rows.Go next (sends_for ask) →
      AddsTarget (cache_at v core).misses misses local.0 target →
      HasLinks (after_open v core request local placement next ask misses)
  links_open request placements.Held next ask misses target place victim row adds =
      links_opening v core local shaped links there within request true next ask misses target
      (opens_to request.op (state_of (cache_at v core) local) next ask row) place adds
  links_open request placements.Free next ask misses target place victim row adds =
      links_opening v core local shaped links there within request false next ask misses target
      (opens_to request.op (state_of (cache_at v core) local) next ask row) place adds
  links_open request placements.Victim next ask misses target place victim row adds =
      let cache = cache_at v core in
      let kept = links.kept core there in
      let now = cache_replaced v core local shaped few there within kept place victim in
      links_opening (with_way v core local placements.Victim) core local (shaped_replace place victim)
      (links_replace place victim)
      (subst (λ n. core.0 < n) (sym (length-set v.caches core.0 (caches.after_replace cache local))) there) within
      request false next ask misses target (opens_to request.op (state_of cache local) next ask row)
      (subst (λ (s : CoreCacheView). HasPlace s local false) (sym now)
      (has_way v core local shaped few there within kept place victim))
      (subst (λ (s : CoreCacheView). AddsTarget s.misses misses local.0 target) (sym now) adds)

-- ---- replies

-- A reply that is handed out keeps the links.
pub links_hand : (v : View) (core : CoreId) (tag : ℕ) → HasLinks v → core.0 < length v.caches →
    HasLinks (after_hand v core tag)
links_hand v core tag links there =
    let cache = cache_at v core in
    let now = caches.after_hand cache tag in
    let is_core : (other : ℕ) → other < length (set v.caches core.0 now) → other < length v.caches =
    λ other h. subst (λ n. other < n) (length-set v.caches core.0 now) h in
    record {
      kept = λ other h.
          placed IsKept v.caches core.0 other.0 now no_cache there
          (λ same. kept-after_hand cache tag (links.kept core there)) (λ apart. links.kept other (is_core other.0 h));
      own = λ other l h.
          placed (λ (s : CoreCacheView). IsSome (array_at s.array l) →
          l.0 < v.lines.lines) v.caches core.0 other.0 now no_cache there
          (λ same. links.own core l there) (λ apart. links.own other l (is_core other.0 h));
      leaves = λ other l h.
          placed (λ (s : CoreCacheView). IsSome (buffer_at s.buffer.write_backs l.0) →
          l.0 < v.lines.lines) v.caches core.0 other.0 now no_cache there
          (λ same. links.leaves core l there) (λ apart. links.leaves other l (is_core other.0 h));
      waits = λ other l h.
          placed (λ (s : CoreCacheView). is_waiting (state_of s l) ≡ has_miss s.misses l.0) v.caches core.0 other.0 now
          no_cache there
          (λ same. links.waits core l there) (λ apart. links.waits other l (is_core other.0 h));
      sent = λ other l h inside.
          placed (λ (s : CoreCacheView). has_sent (state_of s l) (asked (channels_at v l) other.0) ≡ true) v.caches
          core.0
          other.0 now no_cache there
          (λ same. subst (λ n. has_sent (state_of cache l) (asked (channels_at v l) n) ≡ true) (sym same)
          (links.sent core l there inside))
          (λ apart. links.sent other l (is_core other.0 h) inside);
      owned = λ l inside.
          subst (λ n. IfSome (entry_at v l).owner (λ owner. owner.0 < n)) (sym (length-set v.caches core.0 now))
          (links.owned l inside);
    }
