-- What each call of a slice leaves as it was.
use Rattle.std.proofs.Common.{◌≡◌, ℕ, ◌<◌, ◌⊎◌, List, length, Option, Some, None}
use Rattle.std.proofs.Common.{Result, Ok, ⊎_elim, inl, inr, refl, sym, ap, ◌∙◌, subst, arith}
use Rattle.address_map.specs.Locator.{line_at, local_at}
use Rattle.address_map.specs.Place.{line_of}
use Rattle.address_map.specs.declared.address.CoreId.{CoreId}
use Rattle.address_map.specs.declared.address.LineAddr.{LineAddr}
use Rattle.address_map.specs.declared.address.Local.{Local}
use Rattle.address_map.specs.declared.request.Request.{Request}
use Rattle.cache_table.specs.declared.row.CacheSends.{CacheSends}
use Rattle.cache_table.specs.declared.state.CopyState.{CopyState}
use Rattle.directory_table.specs.declared.row.DirStep.{DirStep}
use Rattle.directory_table.specs.declared.state.DirState.{DirState}
use Rattle.script_page.proofs.RestSteps.{Leaves, OpenedAt, leaves_all, leaves_directory, leaves_evict, leaves_forwarded}
use Rattle.script_page.proofs.RestSteps.{leaves_hand, leaves_hit, leaves_home, leaves_join, leaves_more, leaves_open}
use Rattle.script_page.proofs.RestSteps.{leaves_settling}
use Rattle.script_page.specs.Scope.{taker_of}
use Rattle.slice_answer.specs.declared.answer.Delivered.{Delivered}
use Rattle.slice_answer.specs.declared.answer.Delivery.TheVariants as deliveries
use Rattle.slice_answer.specs.declared.answer.Delivery.{Delivery}
use Rattle.slice_answer.specs.declared.answer.Evicted.{Evicted}
use Rattle.slice_answer.specs.declared.answer.Evicted.TheVariants as evictions
use Rattle.slice_answer.specs.declared.answer.Issue.{Issue}
use Rattle.slice_answer.specs.declared.answer.Issue.TheVariants as issues
use Rattle.slice_answer.specs.declared.answer.Refused.{Refused}
use Rattle.slice_core.proofs.Victim.{victim_left_last}
use Rattle.slice_core_cache.proofs.Evictions.{can_leave}
use Rattle.slice_core_cache.specs.Access.{evicted_of}
use Rattle.slice_core_cache.specs.CoreCache.{array_copy}
use Rattle.slice_core_cache.specs.Kept.{stands_in_array}
use Rattle.slice_core_cache.specs.Steps.{victim_for}
use Rattle.slice_core_cache.specs.declared.access.AccessKind.{AccessKind}
use Rattle.slice_core_cache.specs.declared.access.AccessKind.TheVariants as access_kinds
use Rattle.slice_core_cache.specs.declared.access.Ask.{Ask}
use Rattle.slice_core_cache.specs.declared.access.Placement.{Placement}
use Rattle.slice_core_cache.specs.declared.access.Placement.TheVariants as placements
use Rattle.slice_core_theory.proofs.Judged.{is_judged}
use Rattle.slice_core_theory.proofs.KeptByCalls.{IsAccessTo, decided, located}
use Rattle.slice_core_theory.proofs.Planned.{IsFor, is_for}
use Rattle.slice_core_theory.proofs.Settling.{ack_comes, data_comes, filled-state}
use Rattle.slice_core_theory.proofs.Victims.{has_victim_for}
use Rattle.slice_core_theory.specs.Whole.{IsWhole}
use Rattle.slice_core_spec.specs.Calls.{AfterDecision, AfterEvictAt, AfterEvicted}
use Rattle.slice_core_spec.specs.Calls.{PartsView, AfterAccepting, AfterAccess, AfterDelivery, AfterEvict}
use Rattle.slice_core_spec.specs.Calls.{AfterHand, AfterIssue, AfterPlan, IsAccepted, LacksMemory, local_in}
use Rattle.slice_core_spec.specs.Decision.{decision_of}
use Rattle.slice_core_spec.specs.Plan.{ack_move, directory_move, fill_move, forwarded_move, home_move, plan_of, planned_in}
use Rattle.slice_core_spec.specs.Steps.{after_open}
use Rattle.slice_core_spec.specs.View.{View, cache_at, channels_at}
use Rattle.slice_core_spec.specs.declared.decision.Decision.{Decision}
use Rattle.slice_core_spec.specs.declared.decision.Decision.TheVariants as decisions
use Rattle.slice_core_spec.specs.declared.transition.Transition.TheVariants as transitions
use Rattle.slice_core_spec.specs.declared.transition.Transition.{Transition}
use Rattle.slice_core_exec.specs.CoreLines.{last_written_back}
use Rattle.slice_log.specs.declared.entry.Numbered.{Numbered}
use Rattle.slice_queues.specs.Line.{core_at}
use Rattle.slice_queues.specs.Pick.{channel_of, line_of as line_of_pick}
use Rattle.slice_queues.specs.declared.channel.Channel.{Channel}
use Rattle.slice_queues.specs.declared.channel.Channel.TheVariants as channels
use Rattle.slice_queues.specs.declared.channel.Pick.{Pick}
use Rattle.slice_queues.specs.declared.channel.Pick.TheVariants as picks
use Rattle.mshr_file.specs.declared.registers.Register.{Register}

-- ---- requests

module _ (old : PartsView) (core : CoreId) (request : Request) (answer : Result Issue Refused) (new : PartsView)
    (whole : IsWhole old.view) (known : core.0 < length old.view.caches)
    (made : AfterIssue old core request answer new) where
  -- the places of the line that was asked for, and of the one that was evicted last
  abbrev IssuedAt : ℕ → Type 0
  IssuedAt n =
      (local_at old.view.lines (line_of request.word).0 ≡ Some (record { 0 = n }))
      ⊎ (last_written_back new.view core ≡ Some (line_at old.view.lines (record { 0 = n })))

  abbrev KeepsIssued : Type 0
  KeepsIssued = Leaves IssuedAt (Some core) old.view new.view

  same_view : new.view ≡ old.view → KeepsIssued
  same_view is = leaves_all IssuedAt (Some core) old.view new.view is

  at_line : (local : Local) (view : View) → local_at old.view.lines (line_of request.word).0 ≡ Some local
      → Leaves (λ n. n ≡ local.0) (Some core) old.view view → new.view ≡ view → KeepsIssued
  at_line local view found one is =
      subst (Leaves IssuedAt (Some core) old.view) (sym is)
      (leaves_more (λ n. n ≡ local.0) IssuedAt (Some core) old.view view
      (λ n here. inl (found ∙ ap (λ m. Some (record { 0 = m })) (sym here))) one)

  opened : (local : Local) (next : CopyState) (ask : Ask) (placement : Placement) (misses : List Register) (seq : ℕ)
      → decision_of old.view core request ≡ decisions.Access local (access_kinds.PrimaryMiss next ask placement)
      → (found : local_at old.view.lines (line_of request.word).0 ≡ Some local) → answer ≡ Ok (issues.Pending seq)
      → Leaves (OpenedAt old.view core local whole.shaped whole.few known
      (located old.view.lines (line_of request.word).0 local found) (whole.kept core known) placement) (Some core)
      old.view (after_open old.view core request local placement next ask misses)
      → new.view ≡ after_open old.view core request local placement next ask misses → KeepsIssued
  opened local next ask placements.Held misses seq is found says one after = at_line local _ found one after
  opened local next ask placements.Free misses seq is found says one after = at_line local _ found one after
  opened local next ask placements.Victim misses seq is found says one after =
      let victim = victim_for (cache_at old.view core) local in
      subst (Leaves IssuedAt (Some core) old.view) (sym after)
      (leaves_more (λ n. (n ≡ local.0) ⊎ (n ≡ victim.0)) IssuedAt (Some core) old.view _
      (λ n. ⊎_elim (λ here. inl (found ∙ ap (λ m. Some (record { 0 = m })) (sym here)))
      (λ gone. inr (victim_left_last old core request answer new known local next ask seq is says made
      ∙ ap (λ m. Some (line_at old.view.lines (record { 0 = m }))) (sym gone)))) one)

  accepted : (local : Local) (access : AccessKind) → decision_of old.view core request ≡ decisions.Access local access
      → IsAccessTo old.view core request local access → (room : ℕ) (issue : Issue) → answer ≡ Ok issue
      → AfterAccepting access (record old { room = room }) core request local issue new → KeepsIssued
  accepted local (access_kinds.Stall stall) at is room issue says after =
      same_view (ap (λ (p : PartsView). p.view) after.1)
  accepted local (access_kinds.Hit way next silent) at is room issue says after =
      let cache = cache_at old.view core in
      let row = is_judged cache local request.tag request.op (access_kinds.Hit way next silent) is.1 in
      at_line local _ is.2 (leaves_hit old.view core local known (whole.kept core known) request next row.0)
      (ap (λ (p : PartsView). p.view) after.1)
  accepted local access_kinds.SecondaryMiss at is room issue says after =
      at_line local _ is.2 (leaves_join old.view core local request after.0 known after.1.others)
      (ap (λ (p : PartsView). p.view) after.3.1)
  accepted local (access_kinds.PrimaryMiss next ask placement) at is room issue says after =
      let cache = cache_at old.view core in
      let kept = whole.kept core known in
      let row = is_judged cache local request.tag request.op (access_kinds.PrimaryMiss next ask placement) is.1 in
      let victim =
      has_victim_for old.view core local placement kept.array (λ other held. whole.own core other known held) row.1 in
      opened local next ask placement after.0 _ at is.2 (says ∙ ap Ok after.3.0)
      (leaves_open old.view core local whole.shaped whole.few known is.0 kept request placement next ask after.0
      after.1.others row.1 victim)
      (ap (λ (p : PartsView). p.view) after.3.1)

  with_memory : (local : Local) (access : AccessKind)
      → decision_of old.view core request ≡ decisions.Access local access
      → IsAccessTo old.view core request local access
      → LacksMemory old answer new ⊎ IsAccepted access old core request local answer new → KeepsIssued
  with_memory local access at is after =
      ⊎_elim (λ lacks. same_view (ap (λ (p : PartsView). p.view) lacks.unchanged))
      (λ done. accepted local access at is done.0 done.1 done.4 done.5) after

  accessed : (local : Local) (access : AccessKind) → decision_of old.view core request ≡ decisions.Access local access
      → IsAccessTo old.view core request local access → AfterAccess access old core request local answer new
      → KeepsIssued
  accessed local (access_kinds.Stall stall) at is after = same_view (ap (λ (p : PartsView). p.view) after.1)
  accessed local (access_kinds.Hit way next silent) at is after =
      with_memory local (access_kinds.Hit way next silent) at is after
  accessed local access_kinds.SecondaryMiss at is after = with_memory local access_kinds.SecondaryMiss at is after
  accessed local (access_kinds.PrimaryMiss next ask placement) at is after =
      with_memory local (access_kinds.PrimaryMiss next ask placement) at is after

  issued : (decision : Decision) → decision_of old.view core request ≡ decision
      → AfterDecision decision old core request answer new → KeepsIssued
  issued (decisions.Refuse refused) is after = same_view (ap (λ (p : PartsView). p.view) after.1)
  issued (decisions.Access local access) is after =
      accessed local access is (decided old.view core request local access is) after

  pub issue_leaves : Leaves IssuedAt (Some core) old.view new.view
  issue_leaves = issued (decision_of old.view core request) refl made

-- ---- evictions

module _ (old : PartsView) (core : CoreId) (line : LineAddr) (answer : Evicted) (new : PartsView)
    (whole : IsWhole old.view) (known : core.0 < length old.view.caches) where
  abbrev LineAt : ℕ → Type 0
  LineAt n = local_at old.view.lines line.0 ≡ Some (record { 0 = n })

  stays : new ≡ old → Leaves LineAt (Some core) old.view new.view
  stays same = leaves_all LineAt (Some core) old.view new.view (ap (λ (p : PartsView). p.view) same)

  answered : (local : Local) (given : Evicted) → local_at old.view.lines line.0 ≡ Some local
      → given ≡ evicted_of (cache_at old.view core) local → AfterEvicted given old core local new
      → Leaves LineAt (Some core) old.view new.view
  answered local evictions.Evicting found is after =
      let leaves = can_leave (cache_at old.view core) local (sym is) in
      subst (Leaves LineAt (Some core) old.view) (sym (ap (λ (p : PartsView). p.view) after))
      (leaves_more (λ n. n ≡ local.0) LineAt (Some core) old.view _
      (λ n here. found ∙ ap (λ m. Some (record { 0 = m })) (sym here))
      (leaves_evict old.view core local known (whole.kept core known) leaves))
  answered local evictions.Busy found is after = stays after
  answered local evictions.NotHeld found is after = stays after
  answered local evictions.WriteBackFull found is after = stays after

  placed : (place : Option Local) → local_at old.view.lines line.0 ≡ place → AfterEvictAt place old core answer new
      → Leaves LineAt (Some core) old.view new.view
  placed None found after = stays after.1
  placed (Some local) found after = answered local answer found after.0 after.1

  pub evict_leaves : AfterEvict old core line answer new → Leaves LineAt (Some core) old.view new.view
  evict_leaves after = placed (local_at old.view.lines line.0) refl after

-- ---- deliveries

-- the core that takes the messages of a channel
abbrev pub taker_at : Channel → Option CoreId
taker_at (channels.Req core) = None
taker_at (channels.Fwd core) = Some core
taker_at (channels.Data core) = Some core
taker_at (channels.Ack to from) = Some to
taker_at channels.Home = None

module _ (old : PartsView) (local : Local) (answer : Delivered) (new : PartsView) (whole : IsWhole old.view)
    (inside : local.0 < old.view.lines.lines) where
  abbrev Takes : Channel → Type 0
  Takes channel = Leaves (λ n. n ≡ local.0) (taker_at channel) old.view new.view

  seen : (channel : Channel) (view : View) → new.view ≡ view
      → Leaves (λ n. n ≡ local.0) (taker_at channel) old.view view → Takes channel
  seen channel view is one = subst (Leaves (λ n. n ≡ local.0) (taker_at channel) old.view) (sym is) one

  planned : (channel : Channel) (plan : Delivery Transition) → plan_of old.view local channel ≡ plan
      → IsFor old.view channel local plan
  planned = is_for old.view local whole.shaped inside

  some_core : (core : CoreId) → core.0 < length old.view.caches → 0 < length old.view.caches
  some_core core below = omega (arith, below)

  taken_request : (step : DirStep) (channel : Channel) → plan_of old.view local channel ≡ directory_move step
      → AfterPlan (directory_move step) old local channel answer new → Takes channel
  taken_request step (channels.Req core) is after =
      seen (channels.Req core) _ (ap (λ (p : PartsView). p.view) after.1)
      (leaves_directory old.view local core step None)
  taken_request step (channels.Fwd core) is after = absurd (planned (channels.Fwd core) _ is)
  taken_request step (channels.Data core) is after = absurd (planned (channels.Data core) _ is)
  taken_request step (channels.Ack to from) is after = absurd (planned (channels.Ack to from) _ is)
  taken_request step channels.Home is after = absurd (planned channels.Home _ is)

  taken_home : (state : DirState) (owner : Option CoreId) (sharers : ℕ) (channel : Channel)
      → plan_of old.view local channel ≡ home_move state owner sharers
      → AfterPlan (home_move state owner sharers) old local channel answer new → Takes channel
  taken_home state owner sharers channels.Home is after =
      seen channels.Home _ (ap (λ (p : PartsView). p.view) after.1)
      (leaves_home old.view local state owner sharers None)
  taken_home state owner sharers (channels.Req core) is after = absurd (planned (channels.Req core) _ is)
  taken_home state owner sharers (channels.Fwd core) is after = absurd (planned (channels.Fwd core) _ is)
  taken_home state owner sharers (channels.Data core) is after = absurd (planned (channels.Data core) _ is)
  taken_home state owner sharers (channels.Ack to from) is after = absurd (planned (channels.Ack to from) _ is)

  taken_forwarded : (next : CopyState) (sent : CacheSends) (requester : CoreId) (channel : Channel)
      → plan_of old.view local channel ≡ forwarded_move next sent requester
      → AfterPlan (forwarded_move next sent requester) old local channel answer new → Takes channel
  taken_forwarded next sent requester (channels.Fwd core) is after =
      let for = planned (channels.Fwd core) _ is in
      seen (channels.Fwd core) _ (ap (λ (p : PartsView). p.view) after.1)
      (leaves_forwarded old.view local core for.0 (whole.kept core for.0) next sent requester)
  taken_forwarded next sent requester (channels.Req core) is after = absurd (planned (channels.Req core) _ is)
  taken_forwarded next sent requester (channels.Data core) is after = absurd (planned (channels.Data core) _ is)
  taken_forwarded next sent requester (channels.Ack to from) is after = absurd (planned (channels.Ack to from) _ is)
  taken_forwarded next sent requester channels.Home is after = absurd (planned channels.Home _ is)

  taken_data : (way : ℕ) (next : CopyState) (channel : Channel)
      → plan_of old.view local channel ≡ fill_move way next
      → AfterPlan (fill_move way next) old local channel answer new → Takes channel
  taken_data way next (channels.Data core) is after =
      let there = planned (channels.Data core) _ is in
      let kept = whole.kept core there in
      let front = (core_at (channels_at old.view local) core.0).data in
      let comes =
      data_comes old.view local core (some_core core there) whole.few whole.shaped kept there inside way next is in
      seen (channels.Data core) _ (ap (λ (p : PartsView). p.view) after.1.3)
      (leaves_settling old.view local core there kept (channels.Data core) _ after.1.0 comes.waited
      (ap stands_in_array (filled-state (array_copy (cache_at old.view core) local) front next) ∙ comes.stands)
      after.1.1.others)
  taken_data way next (channels.Req core) is after = absurd (planned (channels.Req core) _ is)
  taken_data way next (channels.Fwd core) is after = absurd (planned (channels.Fwd core) _ is)
  taken_data way next (channels.Ack to from) is after = absurd (planned (channels.Ack to from) _ is)
  taken_data way next channels.Home is after = absurd (planned channels.Home _ is)

  taken_ack : (way : ℕ) (next : CopyState) (channel : Channel)
      → plan_of old.view local channel ≡ ack_move way next
      → AfterPlan (ack_move way next) old local channel answer new → Takes channel
  taken_ack way next (channels.Ack to from) is after =
      let there = planned (channels.Ack to from) _ is in
      let kept = whole.kept to there in
      let comes =
      ack_comes old.view local to (some_core to there) whole.few whole.shaped kept there inside from way next is in
      seen (channels.Ack to from) _ (ap (λ (p : PartsView). p.view) after.1.3)
      (leaves_settling old.view local to there kept (channels.Ack to from) _ after.1.0 comes.waited comes.stands
      after.1.1.others)
  taken_ack way next (channels.Req core) is after = absurd (planned (channels.Req core) _ is)
  taken_ack way next (channels.Fwd core) is after = absurd (planned (channels.Fwd core) _ is)
  taken_ack way next (channels.Data core) is after = absurd (planned (channels.Data core) _ is)
  taken_ack way next channels.Home is after = absurd (planned channels.Home _ is)

  nothing_taken : (channel : Channel) → new ≡ old → Takes channel
  nothing_taken channel is =
      leaves_all (λ n. n ≡ local.0) (taker_at channel) old.view new.view (ap (λ (p : PartsView). p.view) is)

  pub planned_leaves : (plan : Delivery Transition) (channel : Channel) → plan_of old.view local channel ≡ plan
      → AfterPlan plan old local channel answer new → Takes channel
  planned_leaves deliveries.Nothing channel is after = nothing_taken channel after.1
  planned_leaves deliveries.Blocked channel is after = nothing_taken channel after.1
  planned_leaves (deliveries.Broken cell) channel is after = nothing_taken channel after.1
  planned_leaves (deliveries.Moved (transitions.Directory step)) channel is after = taken_request step channel is after
  planned_leaves (deliveries.Moved (transitions.Home step)) channel is after =
      taken_home step.state step.owner step.sharers channel is after
  planned_leaves (deliveries.Moved (transitions.Forwarded step)) channel is after =
      taken_forwarded step.next step.sends step.requester channel is after
  planned_leaves (deliveries.Moved (transitions.Fill step)) channel is after =
      taken_data step.way step.next channel is after
  planned_leaves (deliveries.Moved (transitions.Acknowledge step)) channel is after =
      taken_ack step.way step.next channel is after

-- the core that takes a pick's message is the one at its channel
taker_is : (pick : Pick) → taker_at (channel_of pick) ≡ taker_of pick
taker_is (picks.Req line core) = refl
taker_is (picks.Fwd line core) = refl
taker_is (picks.Data line core) = refl
taker_is (picks.Ack line to from) = refl
taker_is (picks.Home line) = refl

module _ (old : PartsView) (pick : Pick) (answer : Delivered) (new : PartsView) (whole : IsWhole old.view) where
  abbrev PickAt : ℕ → Type 0
  PickAt n = local_at old.view.lines (line_of_pick pick).0 ≡ Some (record { 0 = n })

  -- what a delivery returns and leaves, by the line's place
  abbrev by_pick : Option Local → Type 0
  by_pick place =
      AfterPlan (planned_in old.view place (channel_of pick)) old (local_in place) (channel_of pick) answer new

  at_place : (place : Option Local) → local_at old.view.lines (line_of_pick pick).0 ≡ place → by_pick place
      → Leaves PickAt (taker_of pick) old.view new.view
  at_place None found after =
      leaves_all PickAt (taker_of pick) old.view new.view (ap (λ (p : PartsView). p.view) after.1)
  at_place (Some local) found after =
      leaves_more (λ n. n ≡ local.0) PickAt (taker_of pick) old.view new.view
      (λ n here. found ∙ ap (λ m. Some (record { 0 = m })) (sym here))
      (subst (λ (by : Option CoreId). Leaves (λ n. n ≡ local.0) by old.view new.view) (taker_is pick)
      (planned_leaves old local answer new whole (located old.view.lines (line_of_pick pick).0 local found)
      (plan_of old.view local (channel_of pick)) (channel_of pick) refl after))

  pub delivery_leaves : AfterDelivery old pick answer new → Leaves PickAt (taker_of pick) old.view new.view
  delivery_leaves after = at_place (local_at old.view.lines (line_of_pick pick).0) refl after

-- ---- replies

pub hand_leaves : (At : ℕ → Type 0) (old : PartsView) (core : CoreId) (answer : Option Numbered) (new : PartsView)
    → core.0 < length old.view.caches → AfterHand old core answer new → Leaves At (Some core) old.view new.view
hand_leaves At old core None new known after =
    leaves_all At (Some core) old.view new.view (ap (λ (p : PartsView). p.view) after.1)
hand_leaves At old core (Some given) new known after =
    subst (Leaves At (Some core) old.view) (sym (ap (λ (p : PartsView). p.view) after.3))
    (leaves_hand At old.view core after.0 known)
