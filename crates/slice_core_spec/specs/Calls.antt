-- What each call of a slice relies on, returns and leaves. What is done of a request is in Hit.antt, Join.antt and
-- PrimaryMiss.antt, what an eviction does in Eviction.antt, and what a delivery does in Delivery.antt.
use Rattle.std.specs.Prelude.{◌≡◌, ℕ, ◌+◌, ◌^◌, ◌<◌, ◌≤◌, ◌⊎◌, true, [], length, replicate, All, IsSome, IsTrue}
use Rattle.std.specs.Prelude.{slice_get, Option, Some, None, Result, Ok, Err}
use Rattle.address_map.specs.Config.{IsAllowed, slice_lines}
use Rattle.address_map.specs.Locator.{lines_of}
use Rattle.address_map.specs.declared.address.CoreId.{CoreId}
use Rattle.address_map.specs.declared.address.Local.{Local}
use Rattle.address_map.specs.declared.address.SliceId.{SliceId}
use Rattle.address_map.specs.declared.config.Config.{Config}
use Rattle.address_map.specs.declared.request.Request.{Request}
use Rattle.cache_array.specs.Array.{held_at as array_at}
use Rattle.mshr_file.specs.Miss.{Bound, targets_of}
use Rattle.slice_answer.specs.Stats.{no_stats, after_stall}
use Rattle.slice_answer.specs.declared.answer.Delivered.TheVariants as delivered
use Rattle.slice_answer.specs.declared.answer.Issue.TheVariants as issues
use Rattle.slice_answer.specs.declared.answer.Issue.{Issue}
use Rattle.slice_answer.specs.declared.answer.Refused.TheVariants as refusals
use Rattle.slice_answer.specs.declared.answer.Refused.{Refused}
use Rattle.slice_log.specs.declared.entry.Numbered.{Numbered}
use Rattle.slice_core_spec.specs.Decision.{decision_of}
pub use Rattle.slice_core_spec.specs.Delivery.{Moves, Settles, filled_by, core_of, AfterPlan, local_in, AfterDelivery}
pub use Rattle.slice_core_spec.specs.Eviction.{AfterEvict, AfterEvictAt, AfterEvicted}
use Rattle.slice_core_spec.specs.Hit.{AfterHit}
use Rattle.address_map.specs.Place.{counters_of, init_of}
use Rattle.slice_core_spec.specs.Initial.{AreInitialEntries, AreNewCaches}
use Rattle.slice_core_spec.specs.Join.{AfterJoin}
pub use Rattle.slice_core_spec.specs.Join.{target_for}
use Rattle.slice_core_spec.specs.Plan.{plan_of, planned_at}
use Rattle.slice_core_spec.specs.PrimaryMiss.{AfterPrimaryMiss}
pub use Rattle.slice_core_spec.specs.PrimaryMiss.{opened_stats, opened_ring}
use Rattle.slice_core_spec.specs.Ring.{looked_at, next_in, pick_of, ring_after_turn}
pub use Rattle.slice_core_spec.specs.Parts.{PartsView, Accepts}
use Rattle.slice_core_spec.specs.Steps.{after_hand}
use Rattle.slice_core_spec.specs.View.{View, channels_at, cache_at, IsShaped}
use Rattle.slice_core_spec.specs.declared.decision.Decision.TheVariants as decisions
use Rattle.slice_core_spec.specs.declared.decision.Decision.{Decision}
use Rattle.slice_core_cache.specs.Access.{is_idle, IsWithin}
use Rattle.slice_core_cache.specs.CoreCache.{state_of, tag_at}
use Rattle.slice_core_cache.specs.Tags.{IsLeastReply}
use Rattle.slice_core_cache.specs.Targets.{IsPerformable}
use Rattle.slice_core_cache.specs.declared.access.AccessKind.TheVariants as access_kinds
use Rattle.slice_core_cache.specs.declared.access.AccessKind.{AccessKind}
use Rattle.slice_core_cache.specs.declared.tags.TagState.TheVariants as tag_states
use Rattle.slice_queues.specs.Line.{core_at, empty_line}
use Rattle.slice_queues.specs.Class.{is_of_class}
use Rattle.slice_queues.specs.Pick.{channel_of}
use Rattle.slice_queues.specs.declared.channel.Channel.{Channel}
use Rattle.slice_queues.specs.declared.channel.Class.{Class}
use Rattle.writeback_buffer.specs.Buffer.{held_at as buffer_at}
use Rattle.slice_answer.specs.declared.answer.Delivery.TheVariants as deliveries
use Rattle.slice_answer.specs.declared.answer.Delivery.{Delivery}
use Rattle.slice_core_spec.specs.declared.transition.Transition.{Transition}
use Rattle.slice_queues.specs.declared.channel.Pick.{Pick}

-- A slice of the configured machine, with miss files bounded like this, in which nothing was asked for yet.
pub record IsNew (c : Config) (bound : Bound) (slice : SliceId) (p : PartsView) : Type 0 where
  pub allowed : IsAllowed c
  pub lines : p.view.lines ≡ lines_of c slice
  pub entries : AreInitialEntries c (lines_of c slice) (slice_lines c) p.view.entries
  pub channels_are : p.view.channels ≡ replicate (slice_lines c) (empty_line c.cores)
  pub caches : AreNewCaches c bound slice.0 c.cores p.view.caches
  pub log : p.view.log ≡ []
  pub init : p.view.init ≡ init_of c slice.0
  pub counters : p.view.counters ≡ counters_of c slice.0
  pub exclusive : p.view.exclusive ≡ c.exclusive
  pub stats : p.stats ≡ no_stats c.cores c.exclusive
  pub pending : p.pending ≡ 0
  pub room : p.room < 2 ^ 63
  pub ring : p.ring ≡ []

-- ---- what a call relies on

-- A core's request is safe to judge: the counts have room for one more; a copy is in one place; the array has lines
-- of the slice alone; and for a copy that asks for nothing nothing is asked of the directory.
pub record CanIssue (p : PartsView) (core : CoreId) : Type 0 where
  pub known : core.0 < length p.view.caches
  pub shaped : IsShaped p.view
  pub stats : length p.stats.cores ≡ length p.view.caches
  pub counted : (cache_at p.view core).accepted + 1 < 2 ^ 64
  pub pending : p.pending + 1 < 2 ^ 64
  pub bounded : p.room < 2 ^ 63
  pub apart : (local : Local) → IsSome (array_at (cache_at p.view core).array local)
      → buffer_at (cache_at p.view core).buffer.write_backs local.0 ≡ None
  pub own : (local : Local) → IsSome (array_at (cache_at p.view core).array local) → local.0 < p.view.lines.lines
  pub idle : (local : Local) → is_idle (state_of (cache_at p.view core) local) ≡ true
      → (core_at (channels_at p.view local) core.0).request ≡ None

-- A message of a line is safe to take: each target of the line can be performed, and the log has room for those of a
-- core.
pub record CanDeliver (p : PartsView) : Type 0 where
  pub shaped : IsShaped p.view
  pub performable : (core : CoreId) (local : Local)
      → All IsPerformable (targets_of (cache_at p.view core).misses local.0)
  pub room : (core : CoreId) (local : Local)
      → length p.view.log + length (targets_of (cache_at p.view core).misses local.0) ≤ p.room
  pub pending : (core : CoreId) (local : Local) → length (targets_of (cache_at p.view core).misses local.0) ≤ p.pending

-- ---- issue

-- The log had no room for all that waits and this request, and could not grow: nothing has changed.
pub record LacksMemory (old : PartsView) (answer : Result Issue Refused) (new : PartsView) : Type 0 where
  pub refused : answer ≡ Err refusals.Memory
  pub full : old.room < length old.view.log + old.pending + 1
  pub unchanged : new ≡ old

-- What an access that is accepted returns and leaves, where the log has room: a hit, a join or a primary miss.
abbrev pub AfterAccepting : AccessKind → PartsView → CoreId → Request → Local → Issue → PartsView → Type 0
AfterAccepting (access_kinds.Stall stall) old core request local answer new = (answer ≡ issues.Stall stall)
    × (new ≡ old)
AfterAccepting (access_kinds.Hit way next silent) old core request local answer new =
    AfterHit old core request local next silent answer new
AfterAccepting access_kinds.SecondaryMiss old core request local answer new =
    AfterJoin old core request local answer new
AfterAccepting (access_kinds.PrimaryMiss next ask placement) old core request local answer new =
    AfterPrimaryMiss old core request local placement next ask answer new

-- The access is accepted: the log first got room for all that waits and this request, and then the access was done.
abbrev pub IsAccepted : AccessKind → PartsView → CoreId → Request → Local → Result Issue Refused → PartsView → Type 0
IsAccepted access old core request local answer new =
    (room : ℕ) × (issue : Issue)
    × (old.room ≤ room) × (length old.view.log + old.pending + 1 ≤ room)
    × (answer ≡ Ok issue)
    × AfterAccepting access (record old { room = room }) core request local issue new

-- What an access returns and leaves: a stall is counted, and changes nothing else; all else needs room in the log.
abbrev pub AfterAccess : AccessKind → PartsView → CoreId → Request → Local → Result Issue Refused → PartsView → Type 0
AfterAccess (access_kinds.Stall stall) old core request local answer new =
    (answer ≡ Ok (issues.Stall stall)) × (new ≡ record old { stats = after_stall old.stats core stall })
AfterAccess access old core request local answer new =
    LacksMemory old answer new ⊎ IsAccepted access old core request local answer new

-- a request that isn't refused is for a line of the slice, under a tag that there is, and the access is as it was
-- judged
abbrev pub IsDecided : View → CoreId → Request → Decision → Type 0
IsDecided v core request (decisions.Refuse refused) = Unit {0}
IsDecided v core request (decisions.Access local access) =
    (local.0 < v.lines.lines) × (request.tag < 64) × IsWithin (cache_at v core) local request.tag access

-- What a request returns and leaves, by what is decided of it.
abbrev pub AfterDecision : Decision → PartsView → CoreId → Request → Result Issue Refused → PartsView → Type 0
AfterDecision (decisions.Refuse refused) old core request answer new = (answer ≡ Err refused) × (new ≡ old)
AfterDecision (decisions.Access local access) old core request answer new =
    AfterAccess access old core request local answer new

-- What an issue returns and leaves.
abbrev pub AfterIssue : PartsView → CoreId → Request → Result Issue Refused → PartsView → Type 0
AfterIssue old core request answer new =
    AfterDecision (decision_of old.view core request) old core request answer new

-- ---- the next delivery

-- nothing is moved by this plan
abbrev pub IsStuck : Delivery Transition → Type 0
IsStuck (deliveries.Moved step) = ⊥
IsStuck _ = Unit {0}

-- a message is moved by this plan
abbrev pub IsMove : Delivery Transition → Type 0
IsMove (deliveries.Moved step) = Unit {0}
IsMove _ = ⊥

-- at each channel of the class, of each line of the slice, the plan has this property
abbrev pub AllPlans : View → Class → (Delivery Transition → Type 0) → Type 0
AllPlans v class P = (local : Local) (channel : Channel) → local.0 < v.lines.lines → IsTrue (is_of_class class channel)
    → P (plan_of v local channel)

-- at some channel of the class, of some line of the slice, the plan is this one
abbrev pub SomePlan : View → Class → Delivery Transition → Type 0
SomePlan v class plan =
    (local : Local) × (channel : Channel) × (local.0 < v.lines.lines) × IsTrue (is_of_class class channel)
    × (plan_of v local channel ≡ plan)

-- What the next delivery of a class is to be: of a pick whose message can be moved; nothing can be moved only where
-- each message in front of a channel of the class is blocked or broken; and nothing waits only where no channel of the
-- class has a message.
abbrev pub IsNextPick : View → Class → Delivery Pick → Type 0
IsNextPick v class (deliveries.Moved pick) = IsTrue (is_of_class class (channel_of pick)) × IsMove (planned_at v pick)
IsNextPick v class deliveries.Nothing = AllPlans v class (λ plan. plan ≡ deliveries.Nothing)
IsNextPick v class deliveries.Blocked =
    AllPlans v class (λ plan. (plan ≡ deliveries.Nothing) ⊎ (plan ≡ deliveries.Blocked))
    × SomePlan v class deliveries.Blocked
IsNextPick v class (deliveries.Broken cell) = AllPlans v class IsStuck × SomePlan v class (deliveries.Broken cell)

-- what is next of a class, in the order of the ring
abbrev pub next_pick : PartsView → Class → Delivery Pick
next_pick p class = pick_of p.view.lines (next_in p.view class p.ring)

-- what is next is done: where a pick can be moved it is delivered, and else nothing changes
abbrev pub IsDone : PartsView → Delivery Pick → PartsView → Type 0
IsDone old (deliveries.Moved pick) new = AfterDelivery old pick delivered.Moved new
IsDone old _ new = new ≡ old

-- What the next delivery of a class returns and leaves: the one that is next in the order of the ring is made, where
-- one can be made, and the lines that were looked at for it go after the others.
pub record AfterDeliverNext (old : PartsView) (class : Class) (answer : Delivery Pick) (new : PartsView) : Type 0 where
  pub next : answer ≡ next_pick old class
  pub found : IsNextPick old.view class answer
  -- the slice once that is done, before the ring turns
  pub done : PartsView
  pub made : IsDone old answer done
  pub turns : new ≡ record done { ring = ring_after_turn done.view (looked_at old.view class old.ring) done.ring }

-- ---- hand

-- Each performed entry that a tag of the core names is in the log.
abbrev pub HasEntries : View → CoreId → Type 0
HasEntries v core = (tag number : ℕ) → tag_at (cache_at v core) tag ≡ tag_states.Performed number → number
    < length v.log

-- The entry of the least number that isn't handed out is given, and its tag is free; or there is none, and nothing has
-- changed.
abbrev pub AfterHand : PartsView → CoreId → Option Numbered → PartsView → Type 0
AfterHand old core None new = IsLeastReply (cache_at old.view core).tags None × (new ≡ old)
AfterHand old core (Some given) new =
    (tag : ℕ) × IsLeastReply (cache_at old.view core).tags (Some (tag, given.number))
    × (slice_get old.view.log given.number ≡ Some given.entry)
    × (new ≡ record old { view = after_hand old.view core tag })
