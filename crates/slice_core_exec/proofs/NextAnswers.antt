-- What the next delivery of a class returns, by what is best to be done.
use Rattle.std.proofs.Common.{◌≡◌, ◌<◌, ◌⊎◌, refl, sym, ap, subst, inl, inr}
use Rattle.std.specs.Prelude.{IsTrue, Some}
use Rattle.address_map.specs.Locator.{line_at, local_at}
use Rattle.address_map.specs.declared.address.LineAddr.{LineAddr}
use Rattle.address_map.specs.declared.address.Local.{Local}
use Rattle.slice_answer.specs.declared.answer.Cell.{Cell}
use Rattle.slice_answer.specs.declared.answer.Delivered.{Delivered}
use Rattle.slice_core_spec.specs.Next.{next_by, IsNextIn, IsNoBetter}
use Rattle.slice_core_spec.specs.Calls.{PartsView, AfterDelivery, AfterPlan, IsMove, IsNextPick, IsStuck}
use Rattle.slice_core_spec.specs.Calls.{SomePlan}
use Rattle.slice_core_spec.specs.Plan.{plan_of, planned_at}
use Rattle.slice_core_spec.specs.Ring.{pick_of}
use Rattle.slice_core_spec.specs.View.{View}
use Rattle.slice_core_exec.specs.Found.{IsLocated, IsOfSlice}
use Rattle.slice_queues.specs.Class.{is_of_class}
use Rattle.slice_queues.specs.Pick.{channel_of, pick_at}
use Rattle.slice_queues.specs.declared.channel.Channel.{Channel}
use Rattle.slice_queues.specs.declared.channel.Channel.TheVariants as channels
use Rattle.slice_queues.specs.declared.channel.Class.{Class}
use Rattle.slice_answer.specs.declared.answer.Delivery.TheVariants as deliveries
use Rattle.slice_answer.specs.declared.answer.Delivery.{Delivery}
use Rattle.slice_core_spec.specs.declared.transition.Transition.{Transition}

-- what may be next, by the line and its channel
abbrev found_nothing : Delivery (Local × Channel)
found_nothing = deliveries.Nothing

abbrev found_blocked : Delivery (Local × Channel)
found_blocked = deliveries.Blocked

abbrev found_broken : Cell → Delivery (Local × Channel)
found_broken cell = deliveries.Broken cell

abbrev found_at : Local → Channel → Delivery (Local × Channel)
found_at local channel = deliveries.Moved (local, channel)

-- where nothing is best, nothing is planned
none-planned : (local : Local) (channel : Channel) (plan : Delivery Transition) → IsNoBetter deliveries.Nothing (next_by local channel plan)
    → plan ≡ deliveries.Nothing
none-planned local channel deliveries.Nothing h = refl
none-planned local channel deliveries.Blocked h = cc
none-planned local channel (deliveries.Broken cell) h = cc
none-planned local channel (deliveries.Moved step) h = cc

-- where a blocked message is best, nothing is planned elsewhere, or it is blocked
blocked-planned : (local : Local) (channel : Channel) (plan : Delivery Transition)
    → IsNoBetter deliveries.Blocked (next_by local channel plan)
    → (plan ≡ deliveries.Nothing) ⊎ (plan ≡ deliveries.Blocked)
blocked-planned local channel deliveries.Nothing h = inl refl
blocked-planned local channel deliveries.Blocked h = inr refl
blocked-planned local channel (deliveries.Broken cell) h = cc
blocked-planned local channel (deliveries.Moved step) h = cc

-- where a broken message is best, nothing moves
stuck-planned : (local : Local) (channel : Channel) (cell : Cell) (plan : Delivery Transition)
    → IsNoBetter (deliveries.Broken cell) (next_by local channel plan)
    → IsStuck plan
stuck-planned local channel cell deliveries.Nothing h = tt
stuck-planned local channel cell deliveries.Blocked h = tt
stuck-planned local channel cell (deliveries.Broken other) h = tt
stuck-planned local channel cell (deliveries.Moved step) h = cc

-- a blocked message that was met, and a broken one
blocked-met : (local : Local) (channel : Channel) (plan : Delivery Transition) → deliveries.Blocked ≡ next_by local channel plan
    → plan ≡ deliveries.Blocked
blocked-met local channel deliveries.Nothing h = cc
blocked-met local channel deliveries.Blocked h = refl
blocked-met local channel (deliveries.Broken cell) h = cc
blocked-met local channel (deliveries.Moved step) h = cc

broken-met : (local : Local) (channel : Channel) (cell : Cell) (plan : Delivery Transition)
    → deliveries.Broken cell ≡ next_by local channel plan → plan ≡ deliveries.Broken cell
broken-met local channel cell deliveries.Nothing h = cc
broken-met local channel cell deliveries.Blocked h = cc
broken-met local channel cell (deliveries.Broken other) h = ap deliveries.Broken (let e : other ≡ cell = cc in e)
broken-met local channel cell (deliveries.Moved step) h = cc

-- what can be moved is planned there
moved-there : (local at : Local) (channel other : Channel) (plan : Delivery Transition)
    → found_at local channel ≡ next_by at other plan
    → (local ≡ at) × (channel ≡ other)
moved-there local at channel other deliveries.Nothing h = cc
moved-there local at channel other deliveries.Blocked h = cc
moved-there local at channel other (deliveries.Broken cell) h = cc
moved-there local at channel other (deliveries.Moved step) h =
    let one : Local × Channel = (local, channel) in
    let two : Local × Channel = (at, other) in
    let same : one ≡ two = cc in
    (ap (λ (spot : Local × Channel). spot.0) same, ap (λ (spot : Local × Channel). spot.1) same)

-- where nothing, or a blocked or a broken message is best, so it is of all channels of the class
pick-nothing : (v : View) (class : Class) → IsNextIn v class deliveries.Nothing → IsNextPick v class deliveries.Nothing
pick-nothing v class next local channel there of_class =
    none-planned local channel _ (next.0 local channel there of_class)

pick-blocked : (v : View) (class : Class) → IsNextIn v class deliveries.Blocked → IsNextPick v class deliveries.Blocked
pick-blocked v class next = (
  (λ local channel there of_class. blocked-planned local channel _ (next.0 local channel there of_class)),
  met next.1,
)
  where
    met : (found_blocked ≡ found_nothing)
        ⊎ ((local : Local) × (channel : Channel) × (local.0 < v.lines.lines) × IsTrue (is_of_class class channel)
        × (found_blocked ≡ next_by local channel (plan_of v local channel)))
        → SomePlan v class deliveries.Blocked
    met (inl none) = cc
    met (inr some) = (some.0, some.1, some.2, some.3, blocked-met some.0 some.1 _ some.4)

pick-broken : (v : View) (class : Class) (cell : Cell) → IsNextIn v class (deliveries.Broken cell)
    → IsNextPick v class (deliveries.Broken cell)
pick-broken v class cell next = (
  (λ local channel there of_class. stuck-planned local channel cell _ (next.0 local channel there of_class)),
  met next.1,
)
  where
    met : (found_broken cell ≡ found_nothing)
        ⊎ ((local : Local) × (channel : Channel) × (local.0 < v.lines.lines) × IsTrue (is_of_class class channel)
        × (found_broken cell ≡ next_by local channel (plan_of v local channel)))
        → SomePlan v class (deliveries.Broken cell)
    met (inl none) = cc
    met (inr some) = (some.0, some.1, some.2, some.3, broken-met some.0 some.1 cell _ some.4)

-- where a message can be moved, its line is one of the slice's, and its channel of the class
pub record CanMove (v : View) (class : Class) (local : Local) (channel : Channel) : Type 0 where
  pub there : local.0 < v.lines.lines
  pub of_class : IsTrue (is_of_class class channel)
  pub planned : found_at local channel ≡ next_by local channel (plan_of v local channel)

pub can-move : (v : View) (class : Class) (local : Local) (channel : Channel)
    → IsNextIn v class (deliveries.Moved (local, channel))
    → CanMove v class local channel
can-move v class local channel next = met next.1
  where
    at_same : (at : Local) (other : Channel) → local ≡ at → channel ≡ other → at.0 < v.lines.lines
        → IsTrue (is_of_class class other)
        → found_at local channel ≡ next_by at other (plan_of v at other) → CanMove v class local channel
    at_same at other here same there of_class planned =
        let P : Local → Type 0 = λ l. l.0 < v.lines.lines in
        let Q : Channel → Type 0 = λ c. IsTrue (is_of_class class c) in
        let R : Local → Channel → Type 0 = λ l c. found_at local channel ≡ next_by l c (plan_of v l c) in
        record {
          there = subst P (sym here) there;
          of_class = subst Q (sym same) of_class;
          planned = subst (λ (l : Local). R l channel) (sym here) (subst (λ (c : Channel). R at c) (sym same) planned);
        }

    met : (found_at local channel ≡ found_nothing)
        ⊎ ((at : Local) × (other : Channel) × (at.0 < v.lines.lines) × IsTrue (is_of_class class other)
        × (found_at local channel ≡ next_by at other (plan_of v at other)))
        → CanMove v class local channel
    met (inl none) = cc
    met (inr some) =
        let same = moved-there local some.0 channel some.1 (plan_of v some.0 some.1) some.4 in
        at_same some.0 some.1 same.0 same.1 some.2 some.3 some.4

-- what is done at a channel of a line's place is done at the pick of both
pub delivered-at : (old new : PartsView) (local : Local) (channel : Channel) (line : LineAddr) (answer : Delivered)
    → local_at old.view.lines line.0 ≡ Some local
    → AfterPlan (plan_of old.view local channel) old local channel answer new
    → AfterDelivery old (pick_at line channel) answer new
delivered-at old new local (channels.Req core) line answer found after = rw found after
delivered-at old new local (channels.Fwd core) line answer found after = rw found after
delivered-at old new local (channels.Data core) line answer found after = rw found after
delivered-at old new local (channels.Ack to from) line answer found after = rw found after
delivered-at old new local channels.Home line answer found after = rw found after

-- what can be moved is a move
is-move : (local at : Local) (channel other : Channel) (plan : Delivery Transition) → found_at local channel ≡ next_by at other plan
    → IsMove plan
is-move local at channel other deliveries.Nothing h = cc
is-move local at channel other deliveries.Blocked h = cc
is-move local at channel other (deliveries.Broken cell) h = cc
is-move local at channel other (deliveries.Moved step) h = tt

-- what is planned for a channel at its line's place is planned for the pick of both
move-at : (v : View) (local : Local) (channel : Channel) (line : LineAddr) → local_at v.lines line.0 ≡ Some local
    → IsMove (plan_of v local channel) → IsMove (planned_at v (pick_at line channel))
move-at v local (channels.Req core) line found move = rw found move
move-at v local (channels.Fwd core) line found move = rw found move
move-at v local (channels.Data core) line found move = rw found move
move-at v local (channels.Ack to from) line found move = rw found move
move-at v local channels.Home line found move = rw found move

of-class-at : (class : Class) (channel : Channel) (line : LineAddr) → IsTrue (is_of_class class channel)
    → IsTrue (is_of_class class (channel_of (pick_at line channel)))
of-class-at class (channels.Req core) line h = h
of-class-at class (channels.Fwd core) line h = h
of-class-at class (channels.Data core) line h = h
of-class-at class (channels.Ack to from) line h = h
of-class-at class channels.Home line h = h

-- what is found to be next, as a pick
pick-moved : (v : View) (class : Class) (local : Local) (channel : Channel) (line : LineAddr)
    → IsNextIn v class (deliveries.Moved (local, channel)) → local_at v.lines line.0 ≡ Some local
    → IsNextPick v class (deliveries.Moved (pick_at line channel))
pick-moved v class local channel line next found =
    let can = can-move v class local channel next in (
      of-class-at class channel line can.of_class,
      move-at v local channel line found (is-move local local channel channel _ can.planned),
    )

-- ---- a next delivery

-- what was found to be next is one of a line of the slice
pub of-slice : (v : View) (class : Class) (next : Delivery (Local × Channel)) → IsNextIn v class next → IsOfSlice v.lines next
of-slice v class deliveries.Nothing next = tt
of-slice v class deliveries.Blocked next = tt
of-slice v class (deliveries.Broken cell) next = tt
of-slice v class (deliveries.Moved at) next = (can-move v class at.0 at.1 next).there

-- what is next of the class, as a pick
pub found-pick : (v : View) (class : Class) (next : Delivery (Local × Channel)) → IsNextIn v class next
    → IsLocated v.lines next → IsNextPick v class (pick_of v.lines next)
found-pick v class deliveries.Nothing next there = pick-nothing v class next
found-pick v class deliveries.Blocked next there = pick-blocked v class next
found-pick v class (deliveries.Broken cell) next there = pick-broken v class cell next
found-pick v class (deliveries.Moved at) next there = pick-moved v class at.0 at.1 (line_at v.lines at.0) next there
