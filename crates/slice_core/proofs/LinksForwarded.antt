-- A forwarded message that a core takes keeps what copies, registers and requests owe each other.
use Rattle.std.proofs.Common.{◌≡◌, ◌⊎◌, ℕ, ◌<◌, Bool, true, false, ◌&&◌, if◌then◌else◌, length, Option, Some, None}
use Rattle.std.proofs.Common.{IsSome, is_some, option_map, slice_get, inl, inr, refl, sym, ap, ◌∙◌, subst}
use Rattle.address_map.specs.declared.address.CoreId.{CoreId}
use Rattle.address_map.specs.declared.address.Local.{Local}
use Rattle.cache_array.specs.Array.{held_at as array_at}
use Rattle.cache_table.specs.CopyState.{is_leaving, is_waiting}
use Rattle.cache_table.specs.Row.{row_of}
use Rattle.cache_table.specs.declared.row.CacheSends.{CacheSends}
use Rattle.cache_table.specs.declared.row.Row.{Row}
use Rattle.cache_table.specs.declared.row.Row.TheVariants as rows
use Rattle.cache_table.specs.declared.state.CopyState.{CopyState}
use Rattle.cache_table.specs.declared.state.CopyState.TheVariants as copy_states
use Rattle.mshr_file.specs.Miss.{has_miss, targets_of}
use Rattle.slice_core_spec.specs.Plan.{event_of_forwarded, is_put_ack, plan_of, requester_of}
use Rattle.slice_core_spec.specs.Sends.{cache_room, cache_sent}
use Rattle.slice_core_spec.specs.Steps.{after_forwarded}
use Rattle.slice_core_spec.specs.View.{View, channels_at, cache_at, IsShaped}
use Rattle.slice_core_spec.specs.Within.{HasCopy}
use Rattle.slice_core_cache.proofs.Found.{advanced_copy, advanced_leaving, changes-advance, moved_to}
use Rattle.slice_core_cache.proofs.Lines.{FitsIn}
use Rattle.slice_core_cache.specs.Copy.{found_in, is_gone}
use Rattle.slice_core_cache.specs.Kept.{stands_in_array}
use Rattle.slice_core_cache.specs.CoreCache.{CoreCacheView, array_copy, copy_of, state_of}
use Rattle.slice_core_cache.specs.Steps.{after_advance, with_copy, without_line_in}
use Rattle.slice_core_cache.specs.declared.copy.CacheCopy.{CacheCopy}
use Rattle.slice_core.proofs.LinksAccesses.{fits_now}
use Rattle.slice_core.proofs.LinksFrame.{links_step}
use Rattle.slice_core.proofs.LinksRequests.{asked, asked-cache_sent, asked-forwarded_taken}
use Rattle.slice_core.proofs.LinksStates.{gone-is, goes_on_by, GoesOn}
use Rattle.slice_core.specs.Sound.{HasLinks, has_sent}
use Rattle.slice_queues.specs.Line.{after_take, core_at}
use Rattle.slice_queues.specs.declared.channel.Channel.TheVariants as channels
use Rattle.slice_queues.specs.declared.message.ForwardedMessage.{ForwardedMessage}
use Rattle.writeback_buffer.specs.Buffer.{held_at as buffer_at, in_state, with_state, without_line}
use Rattle.writeback_buffer.specs.declared.pending.Leaving.{Leaving}
use Rattle.slice_answer.specs.declared.answer.Delivery.TheVariants as deliveries
use Rattle.slice_answer.specs.declared.answer.Delivery.{Delivery}
use Rattle.slice_core_spec.specs.Plan.{forwarded_move}
use Rattle.slice_core_spec.specs.declared.transition.Transition.TheVariants as transitions
use Rattle.slice_core_spec.specs.declared.transition.Transition.{Transition}

-- ---- the row

-- what is known of a plan for a forwarded message by its row
abbrev pub IsAnswer : View → Local → CoreId → Delivery Transition → Type 0
IsAnswer v local core (deliveries.Moved (transitions.Forwarded step)) =
    GoesOn (state_of (cache_at v core) local) step.next (asked (channels_at v local) core.0)
IsAnswer v local core plan = Unit {0}

answer-planned : (v : View) (local : Local) (core : CoreId) →
    IsAnswer v local core (plan_of v local (channels.Fwd core))
answer-planned v local core = by (slice_get (core_at (channels_at v local) core.0).forwarded 0) refl
  where
    by_row : (message : ForwardedMessage) → slice_get (core_at (channels_at v local) core.0).forwarded 0
        ≡ Some message →
        (row : Row) → row_of (state_of (cache_at v core) local) (event_of_forwarded message) ≡ row →
        IsAnswer v local core (plan_of v local (channels.Fwd core))
    by_row message is rows.NoEntry e = rw (is, e) tt
    by_row message is rows.Blocked e = rw (is, e) tt
    by_row message is (rows.Go next sent) e =
        by_room (cache_room (channels_at v local) core (requester_of core message) sent) refl
        (is_put_ack message && is_some (asked (channels_at v local) core.0)) refl
      where
        by_room : (room : Bool) → cache_room (channels_at v local) core (requester_of core message) sent ≡ room →
            (early : Bool) → (is_put_ack message && is_some (asked (channels_at v local) core.0)) ≡ early →
            IsAnswer v local core (plan_of v local (channels.Fwd core))
        by_room false has_room early is_early = rw (is, e, has_room) tt
        by_room true has_room true is_early = rw (is, e, has_room, is_early) tt
        by_room true has_room false is_early =
            rw (is, e, has_room, is_early)
            (goes_on_by message (state_of (cache_at v core) local) next sent (asked (channels_at v local) core.0) e
            is_early)

    by : (front : Option ForwardedMessage) → slice_get (core_at (channels_at v local) core.0).forwarded 0 ≡ front →
        IsAnswer v local core (plan_of v local (channels.Fwd core))
    by None is = rw is tt
    by (Some message) is =
        by_row message is (row_of (state_of (cache_at v core) local) (event_of_forwarded message)) refl

-- ---- the copy

-- a copy that goes on keeps its place
fits_on : (copy : Option CacheCopy) (leaving : Option Leaving) (gone : Bool) (next : CopyState) → FitsIn copy leaving →
    (gone ≡ false → stands_in_array next ≡ stands_in_array (found_in copy leaving).state) →
    (gone ≡ false → is_leaving next ≡ is_leaving (found_in copy leaving).state) →
    FitsIn (if gone then None else option_map (moved_to next) copy)
    (if gone then None else option_map (in_state next) leaving)
fits_on copy leaving true next fits stands leaves = tt
fits_on (Some copy) (Some leaving) false next fits stands leaves = absurd fits
fits_on (Some copy) None false next fits stands leaves = stands refl ∙ fits
fits_on None (Some leaving) false next fits stands leaves = leaves refl ∙ fits
fits_on None None false next fits stands leaves = tt

-- and it is in its next state
state_on : (copy : Option CacheCopy) (leaving : Option Leaving) (gone : Bool) (next : CopyState) →
    IsSome copy ⊎ IsSome leaving → (gone ≡ true → next ≡ copy_states.I) →
    (found_in (if gone then None else option_map (moved_to next) copy)
    (if gone then None else option_map (in_state next) leaving)).state
    ≡ next
state_on copy leaving true next stands none = sym (none refl)
state_on (Some copy) leaving false next stands none = refl
state_on None (Some leaving) false next stands none = refl
state_on None None false next (inl some) none = absurd (cc some)
state_on None None false next (inr some) none = absurd (cc some)

-- its registers are as they were
misses_on : (cache : CoreCacheView) (local : Local) (next : CopyState) → (after_advance cache local next).misses
    ≡ cache.misses
misses_on cache local next = by (is_some (array_at cache.array local)) (is_gone next)
  where
    by : (held gone : Bool) →
        (if held
        then (if gone then record cache { array = without_line_in cache.array local }
        else record cache { array = with_copy cache.array local (record (array_copy cache local) { state = next }) })
        else (if gone then record cache { buffer = without_line cache.buffer local.0 }
        else record cache { buffer = with_state cache.buffer local.0 next })).misses
        ≡ cache.misses
    by true true = refl
    by true false = refl
    by false true = refl
    by false false = refl

-- ---- the step

-- A forwarded message that a core takes keeps the links.
pub links_forwarded : (v : View) (local : Local) (core : CoreId) (next : CopyState) (sent : CacheSends)
    (requester : CoreId) →
    IsShaped v → HasLinks v → core.0 < length v.caches → local.0 < v.lines.lines →
    plan_of v local (channels.Fwd core) ≡ forwarded_move next sent requester → HasCopy (cache_at v core) local →
    HasLinks (after_forwarded v local core next sent requester)
links_forwarded v local core next sent requester shaped links there within is stands =
    let cache = cache_at v core in
    let line = channels_at v local in
    let kept = links.kept core there in
    let copy = array_at cache.array local in
    let leaving = buffer_at cache.buffer.write_backs local.0 in
    let on = subst (IsAnswer v local core) is (answer-planned v local core) in
    let state = state_on copy leaving (is_gone next) next stands (gone-is next) in
    let taken = after_take line (channels.Fwd core) in
    let same : (other : ℕ) → asked (cache_sent taken core requester (copy_of cache local).block sent) other
    ≡ asked line other =
    λ other. asked-cache_sent taken core requester other (copy_of cache local).block sent
    ∙ asked-forwarded_taken line core other in
    let misses = misses_on cache local next in
    links_step v core local (after_advance cache local next)
    (cache_sent taken core requester (copy_of cache local).block sent)
    (advanced_copy next copy) (advanced_leaving next leaving)
    (record {
      changes = changes-advance cache local kept next;
      fits = fits_on copy leaving (is_gone next) next (fits_now cache local kept) on.stands on.leaves;
      misses = λ other apart. ap (λ m. targets_of m other) misses;
      requests = λ other apart. same other;
      waits = ap is_waiting state ∙ on.waits ∙ links.waits core local there
          ∙ ap (λ m. has_miss m local.0) (sym misses);
      sent =
          ap (λ s. has_sent s (asked (cache_sent taken core requester (copy_of cache local).block sent) core.0)) state
          ∙ ap (has_sent next) (same core.0) ∙ on.sent (links.sent core local there within);
    })
    shaped links there within
