-- Counts and accounts after a delivery.
use Rattle.std.proofs.Common.{◌≡◌, ℕ, ◌+◌, ◌-◌, ◌*◌, ◌<◌, Bool, true, false, if◌then◌else◌, ◌++◌, length, Option, Some}
use Rattle.std.proofs.Common.{None, IsSome, refl, sym, ap, subst, ◌∙◌, arith}
use Rattle.std.specs.Prelude.{is_some, unwrap_or}
use Rattle.address_map.specs.Locator.{line_at, local_at}
use Rattle.address_map.specs.declared.address.CoreId.{CoreId}
use Rattle.address_map.specs.declared.address.Local.{Local}
use Rattle.cache_array.proofs.Held.{written_held}
use Rattle.cache_array.specs.Array.{IsArray, held_at as array_at}
use Rattle.cache_table.specs.declared.row.CacheSends.{CacheSends}
use Rattle.cache_table.specs.declared.state.CopyState.{CopyState}
use Rattle.mshr_file.specs.Miss.{targets_of}
use Rattle.slice_answer.specs.Stats.{after_message}
use Rattle.slice_answer.specs.declared.answer.Delivered.{Delivered}
use Rattle.slice_answer.specs.declared.answer.Delivered.TheVariants as delivered
use Rattle.slice_core_spec.specs.Calls.{PartsView, core_of, filled_by, AfterDeliverNext, AfterDelivery, AfterPlan}
use Rattle.slice_core_spec.specs.Calls.{Settles, local_in, IsDone, Moves}
use Rattle.slice_core_spec.specs.Plan.{plan_of, planned_in}
use Rattle.slice_core_spec.specs.Sends.{cache_sent, directory_sent}
use Rattle.slice_core_spec.specs.Steps.{asked_by, after_directory, after_forwarded, after_home, after_settling}
use Rattle.slice_core_spec.specs.View.{View, channels_at, entry_at, first_word, cache_at, with_entry, with_cache}
use Rattle.slice_core_spec.specs.View.{IsShaped}
use Rattle.slice_core_cache.specs.Copy.{is_gone, no_copy}
use Rattle.slice_core_cache.specs.Perform.{asks_to_write, entries_of, performed_in, tags_after}
use Rattle.slice_core_cache.specs.CoreCache.{CoreCacheView, array_copy, copy_of}
use Rattle.slice_core_cache.specs.Steps as caches
use Rattle.slice_core_cache.specs.Steps.{copy_after_ack}
use Rattle.slice_core_cache.specs.declared.copy.CacheCopy.{CacheCopy}
use Rattle.slice_core.proofs.AccountsKept.{HasSame, Keeps, counts-before, keeps-from_sound, keeps-posted, keeps-settled}
use Rattle.slice_core.proofs.AccountsKept.{keeps-cache, keeps-ring}
use Rattle.slice_core_theory.proofs.MachinePlanned.{held-at_way, is_for_copy, way_in, planned-core, planned-way}
use Rattle.slice_core.proofs.CountedLines.{cores-asked, cores-cache, cores-directory, cores-taken}
use Rattle.slice_core.proofs.CountedStats.{counts-same, same-message}
use Rattle.slice_core.proofs.CountedSteps.{after_step, shaped-channels, shaped-entry}
use Rattle.slice_core.specs.Sound.{IsSound}
use Rattle.slice_queues.specs.Line.{after_take, core_at}
use Rattle.slice_queues.specs.Pick.{channel_of, line_of}
use Rattle.slice_queues.specs.declared.channel.Channel.{Channel}
use Rattle.slice_queues.specs.declared.channel.Channel.TheVariants as channels
use Rattle.slice_queues.specs.declared.channel.Class.{Class}
use Rattle.slice_queues.specs.declared.channel.Pick.{Pick}
use Rattle.slice_answer.specs.declared.answer.Delivery.TheVariants as deliveries
use Rattle.slice_answer.specs.declared.answer.Delivery.{Delivery}
use Rattle.slice_core_spec.specs.Plan.{ack_move, fill_move, forwarded_move}
use Rattle.slice_core_spec.specs.declared.transition.Transition.TheVariants as transitions
use Rattle.slice_core_spec.specs.declared.transition.Transition.{Transition}

-- ---- a copy that goes on

same-if : (b : Bool) (old one other : CoreCacheView) → HasSame old one → HasSame old other
    → HasSame old (if b then one else other)
same-if true old one other first second = first
same-if false old one other first second = second

-- Its requests are as they were, wherever it is.
same-advance : (cache : CoreCacheView) (local : Local) (next : CopyState) →
    HasSame cache (caches.after_advance cache local next)
same-advance cache local next =
    same-if (is_some (array_at cache.array local)) cache (caches.advanced_in_array cache local next)
    (caches.advanced_in_buffer cache local next)
    (same-if (is_gone next) cache _ _ (record { misses = refl; tags = refl; accepted = refl })
    (record { misses = refl; tags = refl; accepted = refl }))
    (same-if (is_gone next) cache _ _ (record { misses = refl; tags = refl; accepted = refl })
    (record { misses = refl; tags = refl; accepted = refl }))

-- The array holds the copy that was put there.
put-there : (cache : CoreCacheView) (local : Local) (copy : CacheCopy) → IsArray cache.array
    → IsSome (array_at cache.array local) → array_copy (caches.after_change cache local copy) local ≡ copy
put-there cache local copy sound held =
    ap (λ (found : Option CacheCopy). unwrap_or found no_copy) (written_held cache.array local sound copy held)

module _ (old : PartsView) (local : Local) (channel : Channel) (new : PartsView) (keeps : Keeps old) where
  -- ---- the directory's rows

  moved : (view : View) → view.lines ≡ old.view.lines → view.caches ≡ old.view.caches → view.log ≡ old.view.log
      → IsShaped view → Moves old local channel view new → Keeps new
  moved view lines caches log shaped is =
      subst Keeps (sym is)
      (keeps-ring _ _
      (keeps-posted old view (after_message old.stats channel) lines caches log (same-message old channel) shaped
      keeps))

  -- ---- a core's copy

  forwarded : (core requester : CoreId) (next : CopyState) (sent : CacheSends) → core.0 < length old.view.caches
      → Moves old local channel (after_forwarded old.view local core next sent requester) new → Keeps new
  forwarded core requester next sent known is =
      let cache = caches.after_advance (cache_at old.view core) local next in
      let before = counts-before old core keeps.counted known in
      let block = (copy_of (cache_at old.view core) local).block in
      let line = after_take (channels_at old.view local) (channels.Fwd core) in
      let went = keeps-cache old core cache old.stats known (same-advance (cache_at old.view core) local next)
      (counts-same old core before.0 (cache_at old.view core).accepted before.1) keeps in
      subst Keeps (sym is)
      (keeps-ring _ _
      (keeps-posted (record old { view = with_cache old.view core cache })
      (after_forwarded old.view local core next sent requester) (after_message old.stats channel) refl refl refl
      (same-message (record old { view = with_cache old.view core cache }) channel)
      (shaped-channels (with_cache old.view core cache) local (cache_sent line core requester block sent)
      (cores-cache line core requester block sent ∙ cores-taken (channels_at old.view local) (channels.Fwd core))
      went.counted.shaped) went))

  settled : (core : CoreId) (copy : CacheCopy) → core.0 < length old.view.caches
      → IsArray (cache_at old.view core).array → IsSome (array_at (cache_at old.view core).array local)
      → Settles old local core channel copy new → Keeps new
  settled core copy known sound held after =
      let cache = cache_at old.view core in
      let targets = targets_of cache.misses local.0 in
      let taken = performed_in copy.state targets in
      let misses = after.0 in
      let now = caches.after_settle (caches.after_change cache local copy) local (length old.view.log) misses in
      let step =
      after_step old core now (old.view.log ++ entries_of core (first_word old.view local) copy.block taken)
      old.stats (old.pending - length taken) old.room in
      let line = after_take (channels_at old.view local) channel in
      let went : Keeps step =
      keeps-settled old core now local copy.block (first_word old.view local) taken known after.1 after.2
      (first (line_at old.view.lines local).0)
      (ap (λ (c : CacheCopy). tags_after cache.tags (length old.view.log) (performed_in c.state targets))
      (put-there cache local copy sound held)) refl keeps in
      subst Keeps (sym after.3)
      (keeps-ring _ _
      (keeps-posted step (after_settling old.view local core channel copy misses) (after_message old.stats channel) refl
      refl refl (same-message step channel)
      (shaped-channels step.view local (asked_by (asks_to_write copy.state targets) line core)
      (cores-asked (asks_to_write copy.state targets) line core ∙ cores-taken (channels_at old.view local) channel)
      went.counted.shaped) went))
    where
      first : (line : ℕ) → 8 * line + 0 ≡ 8 * line
      first line = omega arith

-- ---- the plans

-- What was planned is carried out.
keeps-plan : (plan : Delivery Transition) (old : PartsView) (local : Local) (channel : Channel) (answer : Delivered)
    (new : PartsView)
    → IsSound old → plan_of old.view local channel ≡ plan → AfterPlan plan old local channel answer new → Keeps new
keeps-plan plan old local channel answer new sound = by plan
  where
    keeps : Keeps old
    keeps = keeps-from_sound old sound

    known : (other : Delivery Transition) → plan_of old.view local channel ≡ other → is_for_copy other ≡ true
        → (core_of channel).0 < length old.view.caches
    known other is copies =
        planned-core old.view local sound.counted.shaped channel (ap is_for_copy is ∙ copies)

    held : (other : Delivery Transition) (way : ℕ) → plan_of old.view local channel ≡ other → way_in other ≡ Some way
        → IsSome (array_at (cache_at old.view (core_of channel)).array local)
    held other way is found =
        held-at_way (cache_at old.view (core_of channel)) local way
        (planned-way old.view local channel way (ap way_in is ∙ found))

    by : (other : Delivery Transition) → plan_of old.view local channel ≡ other → AfterPlan other old local channel answer new
        → Keeps new
    by deliveries.Nothing is after = subst Keeps (sym after.1) keeps
    by deliveries.Blocked is after = subst Keeps (sym after.1) keeps
    by (deliveries.Broken cell) is after = subst Keeps (sym after.1) keeps
    by (deliveries.Moved (transitions.Directory step)) is after =
        let core = core_of channel in
        let entry = entry_at old.view local in
        let line = after_take (channels_at old.view local) (channels.Req core) in
        moved old local channel new keeps (after_directory old.view local core step) refl refl refl
        (shaped-channels (with_entry old.view local _) local (directory_sent line core entry.home step.sends)
        (cores-directory line core entry.home step.sends ∙ cores-taken (channels_at old.view local) (channels.Req core))
        (shaped-entry old.view local _ sound.counted.shaped)) after.1
    by (deliveries.Moved (transitions.Home step)) is after =
        moved old local channel new keeps (after_home old.view local step.state step.owner step.sharers) refl refl refl
        (shaped-channels (with_entry old.view local _) local (after_take (channels_at old.view local) channels.Home)
        (cores-taken (channels_at old.view local) channels.Home)
        (shaped-entry old.view local _ sound.counted.shaped)) after.1
    by (deliveries.Moved (transitions.Forwarded step)) is after =
        forwarded old local channel new keeps (core_of channel) step.requester step.next step.sends
        (known (forwarded_move step.next step.sends step.requester) is refl) after.1
    by (deliveries.Moved (transitions.Fill step)) is after =
        let core = core_of channel in
        let there = known (fill_move step.way step.next) is refl in
        settled old local channel new keeps core
        (filled_by (array_copy (cache_at old.view core) local) (core_at (channels_at old.view local) core.0).data
        step.next)
        there (sound.links.kept core there).array (held (fill_move step.way step.next) step.way is refl) after.1
    by (deliveries.Moved (transitions.Acknowledge step)) is after =
        let core = core_of channel in
        let there = known (ack_move step.way step.next) is refl in
        settled old local channel new keeps core (copy_after_ack (array_copy (cache_at old.view core) local) step.next)
        there
        (sound.links.kept core there).array (held (ack_move step.way step.next) step.way is refl) after.1

-- ---- the calls

module _ (old : PartsView) (sound : IsSound old) (new : PartsView) where
  keeps-same : new ≡ old → Keeps new
  keeps-same same = subst Keeps (sym same) (keeps-from_sound old sound)

  -- what a delivery returns and leaves, by the line's place
  abbrev by_line : Pick → Delivered → Option Local → Type 0
  by_line pick answer place =
      AfterPlan (planned_in old.view place (channel_of pick)) old (local_in place) (channel_of pick) answer new

  placed : (pick : Pick) (answer : Delivered) (place : Option Local) → by_line pick answer place → Keeps new
  placed pick answer None after = keeps-same after.1
  placed pick answer (Some local) after =
      keeps-plan (plan_of old.view local (channel_of pick)) old local (channel_of pick) answer new sound refl after

  pub keeps-delivery : (pick : Pick) (answer : Delivered) → AfterDelivery old pick answer new → Keeps new
  keeps-delivery pick answer after = placed pick answer (local_at old.view.lines (line_of pick).0) after

  pub keeps-done : (answer : Delivery Pick) → IsDone old answer new → Keeps new
  keeps-done (deliveries.Moved pick) done = keeps-delivery pick delivered.Moved done
  keeps-done deliveries.Nothing done = keeps-same done
  keeps-done deliveries.Blocked done = keeps-same done
  keeps-done (deliveries.Broken cell) done = keeps-same done

pub keeps-deliver_next : (old : PartsView) → IsSound old → (new : PartsView) (class : Class) (answer : Delivery Pick)
    → AfterDeliverNext old class answer new → Keeps new
keeps-deliver_next old sound new class answer after =
    subst Keeps (sym after.turns) (keeps-ring _ _ (keeps-done old sound after.done answer after.made))
