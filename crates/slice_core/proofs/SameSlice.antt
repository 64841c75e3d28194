-- Each call leaves a slice the one that it was.
use Rattle.std.proofs.Common.{◌≡◌, ℕ, List, Option, Some, None, Result, length, refl, sym, ◌∙◌, subst, ⊎_elim}
use Rattle.std.proofs.Common.{length-set}
use Rattle.std.specs.Prelude.{◌⊎◌}
use Rattle.address_map.specs.Locator.{local_at}
use Rattle.address_map.specs.Place.{offset_of}
use Rattle.address_map.specs.declared.address.CoreId.{CoreId}
use Rattle.address_map.specs.declared.address.LineAddr.{LineAddr}
use Rattle.address_map.specs.declared.address.Local.{Local}
use Rattle.address_map.specs.declared.request.Request.{Request}
use Rattle.cache_table.specs.declared.state.CopyState.{CopyState}
use Rattle.mshr_file.specs.declared.registers.Register.{Register}
use Rattle.directory_table.specs.declared.state.DirEntry.{DirEntry}
use Rattle.slice_core.specs.Facts.{IsSameSlice}
use Rattle.slice_core.specs.Shape.{shape_of}
use Rattle.slice_core.proofs.Shapes.{shape-advance, shape-evict, shape-hit, shape-open, shape-replace, shape-settle}
use Rattle.slice_core.proofs.Shapes.{shapes-kept}
use Rattle.slice_answer.specs.Stats.{StatsView}
use Rattle.slice_answer.specs.declared.answer.Delivered.{Delivered}
use Rattle.slice_answer.specs.declared.answer.Delivered.TheVariants as delivered
use Rattle.slice_answer.specs.declared.answer.Evicted.{Evicted}
use Rattle.slice_answer.specs.declared.answer.Evicted.TheVariants as evictions
use Rattle.slice_answer.specs.declared.answer.Issue.{Issue}
use Rattle.slice_answer.specs.declared.answer.Refused.{Refused}
use Rattle.slice_log.specs.declared.entry.Entry.{Entry}
use Rattle.slice_log.specs.declared.entry.Numbered.{Numbered}
use Rattle.slice_core_cache.specs.CoreCache.{CoreCacheView}
use Rattle.slice_core_cache.specs.declared.access.AccessKind.{AccessKind}
use Rattle.slice_core_cache.specs.declared.access.AccessKind.TheVariants as access_kinds
use Rattle.slice_core_cache.specs.declared.access.Ask.{Ask}
use Rattle.slice_core_cache.specs.declared.access.Placement.{Placement}
use Rattle.slice_core_cache.specs.declared.access.Placement.TheVariants as placements
use Rattle.slice_core_cache.specs.declared.copy.CacheCopy.{CacheCopy}
use Rattle.slice_core_spec.specs.Decision.{decision_of}
use Rattle.slice_core_spec.specs.Calls.{AfterDecision, AfterEvictAt, AfterEvicted}
use Rattle.slice_core_spec.specs.Calls.{PartsView, AfterAccepting, AfterAccess, AfterDeliverNext, AfterDelivery}
use Rattle.slice_core_spec.specs.Calls.{AfterEvict, AfterHand, AfterIssue, AfterPlan, IsAccepted, LacksMemory, Settles}
use Rattle.slice_core_spec.specs.Calls.{core_of, opened_stats, local_in, IsDone}
use Rattle.slice_core_spec.specs.Plan.{plan_of, planned_in}
use Rattle.slice_core_spec.specs.Steps.{after_open, is_held, with_way}
use Rattle.slice_core_spec.specs.View.{cache_at, with_cache}
use Rattle.slice_core_spec.specs.declared.decision.Decision.{Decision}
use Rattle.slice_core_spec.specs.declared.decision.Decision.TheVariants as decisions
use Rattle.slice_queues.specs.Line.{LineChannels}
use Rattle.slice_queues.specs.Pick.{channel_of, line_of}
use Rattle.slice_queues.specs.declared.channel.Channel.{Channel}
use Rattle.slice_queues.specs.declared.channel.Class.{Class}
use Rattle.slice_queues.specs.declared.channel.Pick.{Pick}
use Rattle.slice_answer.specs.declared.answer.Delivery.TheVariants as deliveries
use Rattle.slice_answer.specs.declared.answer.Delivery.{Delivery}
use Rattle.slice_core_spec.specs.declared.transition.Transition.TheVariants as transitions
use Rattle.slice_core_spec.specs.declared.transition.Transition.{Transition}

-- What changes nothing leaves the slice that it was, and so do two changes one after the other that both leave it.
pub same-is : (old new : PartsView) → new ≡ old → IsSameSlice old new
same-is old new is =
    subst (IsSameSlice old) (sym is)
    (record {
      lines = refl;
      init = refl;
      counters = refl;
      cores = refl;
      shapes = refl;
      exclusive = refl;
      reported = refl;
    })

pub same-then : (old middle new : PartsView) → IsSameSlice old middle → IsSameSlice middle new → IsSameSlice old new
same-then old middle new one other = record {
  lines = other.lines ∙ one.lines;
  init = other.init ∙ one.init;
  counters = other.counters ∙ one.counters;
  cores = other.cores ∙ one.cores;
  shapes = other.shapes ∙ one.shapes;
  exclusive = other.exclusive ∙ one.exclusive;
  reported = other.reported ∙ one.reported;
}

-- A slice stays the one that it was where its entries, its channels, its counts, the room of its log and its ring
-- change, ..
lines-changed : (old : PartsView) (entries : List DirEntry) (channels : List LineChannels) (stats : StatsView)
    (room : ℕ) (ring : List ℕ) → stats.exclusive ≡ old.stats.exclusive
    → IsSameSlice old (record old {
      view = record old.view { entries = entries; channels = channels };
      stats = stats;
      room = room;
      ring = ring;
    })
lines-changed old entries channels stats room ring reported = record {
  lines = refl;
  init = refl;
  counters = refl;
  cores = refl;
  shapes = refl;
  exclusive = refl;
  reported = reported;
}

-- .. and where one core has another part of the shape that it had, whatever was sent, performed and counted.
part-changed : (old : PartsView) (core : CoreId) (cache : CoreCacheView) (channels : List LineChannels)
    (log : List Entry)
    (stats : StatsView) (pending : ℕ) (ring : List ℕ)
    → shape_of cache ≡ shape_of (cache_at old.view core) → stats.exclusive ≡ old.stats.exclusive
    → IsSameSlice old (record old {
      view = record (with_cache old.view core cache) { channels = channels; log = log };
      stats = stats;
      pending = pending;
      ring = ring;
    })
part-changed old core cache channels log stats pending ring shape reported = record {
  lines = refl;
  init = refl;
  counters = refl;
  cores = simp length-set;
  shapes = shapes-kept old.view core cache shape;
  exclusive = refl;
  reported = reported;
}

-- ---- issue

opened-reported : (stats : StatsView) (core : CoreId) (placement : Placement)
    → (opened_stats stats core placement).exclusive ≡ stats.exclusive
opened-reported stats core placements.Victim = refl
opened-reported stats core placements.Held = refl
opened-reported stats core placements.Free = refl

with-way : (old : PartsView) (core : CoreId) (local : Local) (placement : Placement)
    → IsSameSlice old (record old { view = with_way old.view core local placement })
with-way old core local placements.Victim =
    part-changed old core _ _ _ _ _ _ (shape-replace (cache_at old.view core) local) refl
with-way old core local placements.Held = same-is old old refl
with-way old core local placements.Free = same-is old old refl

opened : (old : PartsView) (core : CoreId) (request : Request) (local : Local) (placement : Placement)
    (next : CopyState)
    (ask : Ask) (misses : List Register)
    → IsSameSlice old (record old { view = after_open old.view core request local placement next ask misses })
opened old core request local placement next ask misses =
    let middle = record old { view = with_way old.view core local placement } in
    same-then old middle _ (with-way old core local placement)
    (part-changed middle core _ _ _ _ _ _
    (shape-open (cache_at middle.view core) local (is_held placement) next request misses) refl)

accepted : (access : AccessKind) (old : PartsView) (core : CoreId) (request : Request) (local : Local) (answer : Issue)
    (new : PartsView) → AfterAccepting access old core request local answer new → IsSameSlice old new
accepted (access_kinds.Stall stall) old core request local answer new after = same-is old new after.1
accepted (access_kinds.Hit way next silent) old core request local answer new after =
    subst (IsSameSlice old) (sym after.1)
    (part-changed old core _ _ _ _ _ _
    (shape-hit (cache_at old.view core) local (offset_of request.word).0 request.op next) refl)
accepted access_kinds.SecondaryMiss old core request local answer new after =
    subst (IsSameSlice old) (sym after.3.1)
    (part-changed old core _ _ _ _ _ _ refl refl)
accepted (access_kinds.PrimaryMiss next ask placement) old core request local answer new after =
    let same = opened old core request local placement next ask after.0 in
    subst (IsSameSlice old) (sym after.3.1)
    (record {
      lines = same.lines;
      init = same.init;
      counters = same.counters;
      cores = same.cores;
      shapes = same.shapes;
      exclusive = same.exclusive;
      reported = opened-reported old.stats core placement;
    })

module _ (old : PartsView) (core : CoreId) (request : Request) (answer : Result Issue Refused) (new : PartsView) where
  -- an access that needs room in the log
  let_in : (local : Local) (access : AccessKind)
      → LacksMemory old answer new ⊎ IsAccepted access old core request local answer new → IsSameSlice old new
  let_in local access after =
      ⊎_elim (λ lacks. same-is old new lacks.unchanged)
      (λ is.
      let roomy = record old { room = is.0 } in
      same-then old roomy new
      (lines-changed old _ _ _ _ _ refl)
      (accepted access roomy core request local is.1 new is.5))
      after

  accessed : (local : Local) (access : AccessKind) → AfterAccess access old core request local answer new
      → IsSameSlice old new
  accessed local (access_kinds.Stall stall) after =
      subst (IsSameSlice old) (sym after.1)
      (lines-changed old _ _ _ _ _ refl)
  accessed local (access_kinds.Hit way next silent) after = let_in local (access_kinds.Hit way next silent) after
  accessed local access_kinds.SecondaryMiss after = let_in local access_kinds.SecondaryMiss after
  accessed local (access_kinds.PrimaryMiss next ask placement) after =
      let_in local (access_kinds.PrimaryMiss next ask placement) after

  decided : (decision : Decision) → AfterDecision decision old core request answer new → IsSameSlice old new
  decided (decisions.Refuse refused) after = same-is old new after.1
  decided (decisions.Access local access) after = accessed local access after

  pub same-issue : AfterIssue old core request answer new → IsSameSlice old new
  same-issue after = decided (decision_of old.view core request) after

-- ---- evict

module _ (old : PartsView) (core : CoreId) (line : LineAddr) (answer : Evicted) (new : PartsView) where
  answered : (local : Local) (given : Evicted) → AfterEvicted given old core local new → IsSameSlice old new
  answered local evictions.Evicting after =
      subst (IsSameSlice old) (sym after)
      (part-changed old core _ _ _ _ _ _ (shape-evict (cache_at old.view core) local) refl)
  answered local evictions.Busy after = same-is old new after
  answered local evictions.NotHeld after = same-is old new after
  answered local evictions.WriteBackFull after = same-is old new after

  placed : (place : Option Local) → AfterEvictAt place old core answer new → IsSameSlice old new
  placed None after = same-is old new after.1
  placed (Some local) after = answered local answer after.1

  pub same-evict : AfterEvict old core line answer new → IsSameSlice old new
  same-evict after = placed (local_at old.view.lines line.0) after

-- ---- deliver

settled : (old : PartsView) (local : Local) (core : CoreId) (channel : Channel) (copy : CacheCopy) (new : PartsView)
    → Settles old local core channel copy new → IsSameSlice old new
settled old local core channel copy new after =
    subst (IsSameSlice old) (sym after.3)
    (part-changed old core _ _ _ _ _ _
    (shape-settle (cache_at old.view core) local copy (length old.view.log) after.0) refl)

planned : (plan : Delivery Transition) (old : PartsView) (local : Local) (channel : Channel) (answer : Delivered) (new : PartsView)
    → AfterPlan plan old local channel answer new → IsSameSlice old new
planned deliveries.Nothing old local channel answer new after = same-is old new after.1
planned deliveries.Blocked old local channel answer new after = same-is old new after.1
planned (deliveries.Broken cell) old local channel answer new after = same-is old new after.1
planned (deliveries.Moved (transitions.Directory step)) old local channel answer new after =
    subst (IsSameSlice old) (sym after.1)
    (lines-changed old _ _ _ _ _ refl)
planned (deliveries.Moved (transitions.Home step)) old local channel answer new after =
    subst (IsSameSlice old) (sym after.1)
    (lines-changed old _ _ _ _ _ refl)
planned (deliveries.Moved (transitions.Forwarded step)) old local channel answer new after =
    subst (IsSameSlice old) (sym after.1)
    (part-changed old (core_of channel) _ _ _ _ _ _
    (shape-advance (cache_at old.view (core_of channel)) local step.next) refl)
planned (deliveries.Moved (transitions.Fill step)) old local channel answer new after = settled old local _ channel _ new after.1
planned (deliveries.Moved (transitions.Acknowledge step)) old local channel answer new after = settled old local _ channel _ new after.1

module _ (old : PartsView) (pick : Pick) (answer : Delivered) (new : PartsView) where
  -- what a delivery returns and leaves, by the line's place
  abbrev by_place : Option Local → Type 0
  by_place place =
      AfterPlan (planned_in old.view place (channel_of pick)) old (local_in place) (channel_of pick) answer new

  found : (place : Option Local) → by_place place → IsSameSlice old new
  found None after = same-is old new after.1
  found (Some local) after =
      planned (plan_of old.view local (channel_of pick)) old local (channel_of pick) answer new after

  pub same-deliver : AfterDelivery old pick answer new → IsSameSlice old new
  same-deliver after = found (local_at old.view.lines (line_of pick).0) after

same-done : (old : PartsView) (answer : Delivery Pick) (new : PartsView) → IsDone old answer new → IsSameSlice old new
same-done old (deliveries.Moved pick) new done = same-deliver old pick delivered.Moved new done
same-done old deliveries.Nothing new done = same-is old new done
same-done old deliveries.Blocked new done = same-is old new done
same-done old (deliveries.Broken cell) new done = same-is old new done

pub same-next : (old : PartsView) (class : Class) (answer : Delivery Pick) (new : PartsView)
    → AfterDeliverNext old class answer new → IsSameSlice old new
same-next old class answer new after =
    subst (IsSameSlice old) (sym after.turns)
    (same-then old after.done _ (same-done old answer after.done after.made)
    (lines-changed after.done _ _ _ _ _ refl))

-- ---- hand

pub same-hand : (old : PartsView) (core : CoreId) (answer : Option Numbered) (new : PartsView)
    → AfterHand old core answer new → IsSameSlice old new
same-hand old core None new after = same-is old new after.1
same-hand old core (Some given) new after =
    subst (IsSameSlice old) (sym after.3)
    (part-changed old core _ _ _ _ _ _ refl refl)
