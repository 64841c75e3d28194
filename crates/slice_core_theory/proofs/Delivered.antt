-- A delivery performs as many requests as the log grows by: those that a settled copy allows, and else none.
use Rattle.std.proofs.Common.{◌≡◌, ℕ, ◌<◌, Bool, true, false, if◌then◌else◌, [], length, Option, Some, None, IsSome}
use Rattle.std.proofs.Common.{refl, sym, ap, ◌∙◌, subst, arith}
use Rattle.std.specs.Prelude.{is_some, unwrap_or}
use Rattle.address_map.specs.Locator.{local_at}
use Rattle.address_map.specs.declared.address.CoreId.{CoreId}
use Rattle.address_map.specs.declared.address.Local.{Local}
use Rattle.cache_array.proofs.Held.{written_held}
use Rattle.cache_array.specs.Array.{IsArray, held_at as array_at}
use Rattle.mshr_file.specs.Miss.{TakesTargets, targets_of}
use Rattle.slice_answer.specs.declared.answer.Delivered.{Delivered}
use Rattle.slice_answer.specs.declared.answer.Delivered.TheVariants as delivered
use Rattle.slice_core_theory.specs.Whole.{IsWhole}
use Rattle.slice_log.specs.Log.{IsLegal, initially}
use Rattle.slice_core_theory.proofs.Kept.{ShowsSame, kept-of, leads-same, same-view, cache-here, cache-there}
use Rattle.slice_core_theory.proofs.MachinePlanned.{held-at_way, is_for_copy, way_in, planned-core, planned-way}
use Rattle.slice_core_theory.proofs.MachineSettled.{settled_performs}
use Rattle.slice_core_theory.specs.Shows.{IsAccounted, Performs}
use Rattle.slice_core_spec.specs.Calls.{AfterDeliverNext, AfterDelivery, AfterPlan, IsDone, PartsView, Settles, core_of}
use Rattle.slice_core_spec.specs.Calls.{local_in}
use Rattle.slice_core_spec.specs.Plan.{plan_of, planned_in}
use Rattle.slice_core_spec.specs.Steps.{after_forwarded, after_settling}
use Rattle.slice_core_spec.specs.View.{View, cache_at}
use Rattle.slice_core_cache.specs.Copy.{is_gone, no_copy}
use Rattle.slice_core_cache.specs.Perform.{performed_in, tags_after}
use Rattle.slice_core_cache.specs.CoreCache.{CoreCacheView, array_copy}
use Rattle.slice_core_cache.specs.Steps as caches
use Rattle.slice_core_cache.specs.declared.copy.CacheCopy.{CacheCopy}
use Rattle.cache_table.specs.declared.row.CacheSends.{CacheSends}
use Rattle.cache_table.specs.declared.state.CopyState.{CopyState}
use Rattle.slice_queues.specs.Pick.{channel_of, line_of}
use Rattle.slice_queues.specs.declared.channel.Channel.{Channel}
use Rattle.slice_queues.specs.declared.channel.Class.{Class}
use Rattle.slice_queues.specs.declared.channel.Pick.{Pick}
use Rattle.slice_answer.specs.declared.answer.Delivery.TheVariants as deliveries
use Rattle.slice_answer.specs.declared.answer.Delivery.{Delivery}
use Rattle.slice_core_spec.specs.Plan.{ack_move, fill_move, forwarded_move}
use Rattle.slice_core_spec.specs.declared.transition.Transition.TheVariants as transitions
use Rattle.slice_core_spec.specs.declared.transition.Transition.{Transition}

-- Where the same is shown nothing was performed.
performs-none : (old new : View) → ShowsSame old new → Performs old new
performs-none old new same = record {
  requests = [];
  grows = let long = ap (λ l. length l) same.log in omega (arith, long);
  leads = leads-same old new same;
}

-- ---- a copy that goes on

kept-if : {A : Type 0} (f : CoreCacheView → A) (b : Bool) (old one other : CoreCacheView) → f one ≡ f old → f other
    ≡ f old
    → f (if b then one else other) ≡ f old
kept-if f true old one other first second = first
kept-if f false old one other first second = second

-- Wherever it is, the core's misses and tags are as they were.
misses-advance : (cache : CoreCacheView) (local : Local) (next : CopyState)
    → (caches.after_advance cache local next).misses ≡ cache.misses
misses-advance cache local next =
    kept-if (λ (s : CoreCacheView). s.misses) (is_some (array_at cache.array local)) cache
    (caches.advanced_in_array cache local next) (caches.advanced_in_buffer cache local next)
    (kept-if (λ (s : CoreCacheView). s.misses) (is_gone next) cache _ _ refl refl)
    (kept-if (λ (s : CoreCacheView). s.misses) (is_gone next) cache _ _ refl refl)

tags-advance : (cache : CoreCacheView) (local : Local) (next : CopyState)
    → (caches.after_advance cache local next).tags ≡ cache.tags
tags-advance cache local next =
    kept-if (λ (s : CoreCacheView). s.tags) (is_some (array_at cache.array local)) cache
    (caches.advanced_in_array cache local next) (caches.advanced_in_buffer cache local next)
    (kept-if (λ (s : CoreCacheView). s.tags) (is_gone next) cache _ _ refl refl)
    (kept-if (λ (s : CoreCacheView). s.tags) (is_gone next) cache _ _ refl refl)

-- ---- a copy that settles

-- The array holds the copy that was put there.
put-there : (cache : CoreCacheView) (local : Local) (copy : CacheCopy) → IsArray cache.array
    → IsSome (array_at cache.array local) → array_copy (caches.after_change cache local copy) local ≡ copy
put-there cache local copy sound held =
    ap (λ (found : Option CacheCopy). unwrap_or found no_copy) (written_held cache.array local sound copy held)

module _ (old : PartsView) (local : Local) (channel : Channel) (new : PartsView) (accounted : IsAccounted old.view)
    (whole : IsWhole old.view) (legal : IsLegal (initially old.view.init) new.view.log) where
  -- The slice shows the same.
  quiet : (after : PartsView) → new ≡ after → ShowsSame old.view after.view → Performs old.view new.view
  quiet after is same =
      subst (λ (p : PartsView). Performs old.view p.view) (sym is) (performs-none old.view after.view same)

  settled : (core : CoreId) (copy : CacheCopy) → core.0 < length old.view.caches
      → IsSome (array_at (cache_at old.view core).array local) → Settles old local core channel copy new
      → Performs old.view new.view
  settled core copy known held done =
      let view = after_settling old.view local core channel copy done.0 in
      let before = caches.after_change (cache_at old.view core) local copy in
      let cache = caches.after_settle before local (length old.view.log) done.0 in
      let targets = targets_of (cache_at old.view core).misses local.0 in
      let taken = performed_in copy.state targets in
      let here = cache-here old.view core cache known core refl in
      subst (λ (p : PartsView). Performs old.view p.view) (sym done.3)
      (settled_performs old.view view core local taken copy.block accounted known
      (record {
        lines = refl;
        init = refl;
        log = refl;
        takes =
            subst (λ (s : CoreCacheView). TakesTargets (cache_at old.view core).misses s.misses local.0 taken)
            (sym here)
            done.1;
        tags =
            ap (λ (s : CoreCacheView). s.tags) here
            ∙ ap (λ (c : CacheCopy). tags_after (cache_at old.view core).tags (length old.view.log)
            (performed_in c.state targets))
            (put-there (cache_at old.view core) local copy (whole.kept core known).array held);
        misses = λ other apart. ap (λ (s : CoreCacheView). s.misses) (cache-there old.view core cache other apart);
        names = λ other apart. ap (λ (s : CoreCacheView). s.tags) (cache-there old.view core cache other apart);
      })
      (subst (λ (p : PartsView). IsLegal (initially old.view.init) p.view.log) done.3 legal))

  forwarded : (core requester : CoreId) (next : CopyState) (sent : CacheSends) → core.0 < length old.view.caches
      → ShowsSame old.view (after_forwarded old.view local core next sent requester)
  forwarded core requester next sent known =
      let cache = caches.after_advance (cache_at old.view core) local next in record {
        lines = refl;
        init = refl;
        log = refl;
        misses =
            kept-of (λ (s : CoreCacheView). s.misses) old.view core cache known
            (misses-advance (cache_at old.view core) local next);
        tags =
            kept-of (λ (s : CoreCacheView). s.tags) old.view core cache known
            (tags-advance (cache_at old.view core) local next);
      }

  -- A copy that is changed by data or by an acknowledgement is in its core's array.
  held : (way : ℕ) (plan : Delivery Transition) → plan_of old.view local channel ≡ plan → way_in plan ≡ Some way
      → IsSome (array_at (cache_at old.view (core_of channel)).array local)
  held way plan is stands =
      held-at_way (cache_at old.view (core_of channel)) local way
      (planned-way old.view local channel way (ap way_in is ∙ stands))

  there : (plan : Delivery Transition) → plan_of old.view local channel ≡ plan → is_for_copy plan ≡ true
      → (core_of channel).0 < length old.view.caches
  there plan is passes = planned-core old.view local whole.shaped channel (ap is_for_copy is ∙ passes)

  pub planned_performs : (plan : Delivery Transition) (answer : Delivered) → plan_of old.view local channel ≡ plan
      → AfterPlan plan old local channel answer new → Performs old.view new.view
  planned_performs deliveries.Nothing answer is done = quiet old done.1 (same-view old.view)
  planned_performs deliveries.Blocked answer is done = quiet old done.1 (same-view old.view)
  planned_performs (deliveries.Broken cell) answer is done = quiet old done.1 (same-view old.view)
  planned_performs (deliveries.Moved (transitions.Directory step)) answer is done =
      quiet _ done.1 (record { lines = refl; init = refl; log = refl; misses = λ core. refl; tags = λ core. refl })
  planned_performs (deliveries.Moved (transitions.Home step)) answer is done =
      quiet _ done.1 (record { lines = refl; init = refl; log = refl; misses = λ core. refl; tags = λ core. refl })
  planned_performs (deliveries.Moved (transitions.Forwarded step)) answer is done =
      quiet _ done.1
      (forwarded (core_of channel) step.requester step.next step.sends (there (forwarded_move step.next step.sends step.requester) is refl))
  planned_performs (deliveries.Moved (transitions.Fill step)) answer is done =
      settled (core_of channel) _ (there (fill_move step.way step.next) is refl)
      (held step.way (fill_move step.way step.next) is refl)
      done.1
  planned_performs (deliveries.Moved (transitions.Acknowledge step)) answer is done =
      settled (core_of channel) _ (there (ack_move step.way step.next) is refl)
      (held step.way (ack_move step.way step.next) is refl) done.1

-- ---- the calls

module _ (old new : PartsView) (accounted : IsAccounted old.view) (whole : IsWhole old.view)
    (legal : IsLegal (initially old.view.init) new.view.log) where
  unchanged : new ≡ old → Performs old.view new.view
  unchanged is =
      subst (λ (p : PartsView). Performs old.view p.view) (sym is)
      (performs-none old.view old.view (same-view old.view))

  -- what a delivery returns and leaves, by the line's place
  abbrev by_line : Pick → Delivered → Option Local → Type 0
  by_line pick answer place =
      AfterPlan (planned_in old.view place (channel_of pick)) old (local_in place) (channel_of pick) answer new

  at_place : (pick : Pick) (answer : Delivered) (place : Option Local) → by_line pick answer place
      → Performs old.view new.view
  at_place pick answer None done = unchanged done.1
  at_place pick answer (Some local) done =
      planned_performs old local (channel_of pick) new accounted whole legal
      (plan_of old.view local (channel_of pick)) answer refl done

  -- A delivery of a chosen message performs as many as it logs.
  pub delivery_performs : (pick : Pick) (answer : Delivered) → AfterDelivery old pick answer new
      → Performs old.view new.view
  delivery_performs pick answer done = at_place pick answer (local_at old.view.lines (line_of pick).0) done

  -- So does what is done of the next message of a class, ..
  pub done_performs : (answer : Delivery Pick) → IsDone old answer new → Performs old.view new.view
  done_performs (deliveries.Moved pick) done = delivery_performs pick delivered.Moved done
  done_performs deliveries.Nothing done = unchanged done
  done_performs deliveries.Blocked done = unchanged done
  done_performs (deliveries.Broken cell) done = unchanged done

-- .. and the turn of the ring after it shows nothing.
pub deliver_next_performs : (old new : PartsView) → IsAccounted old.view → IsWhole old.view
    → IsLegal (initially old.view.init) new.view.log → (class : Class) (answer : Delivery Pick)
    → AfterDeliverNext old class answer new → Performs old.view new.view
deliver_next_performs old new accounted whole legal class answer after =
    let same = after.turns in
    subst (λ (p : PartsView). Performs old.view p.view) (sym same)
    (done_performs old after.done accounted whole
    (subst (λ (p : PartsView). IsLegal (initially old.view.init) p.view.log) same legal) answer after.made)
