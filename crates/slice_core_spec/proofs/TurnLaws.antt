-- A line with a message that can be moved is taken from by a next delivery, or comes nearer to the front of the ring.
use Rattle.std.proofs.Common.{◌≡◌, ℕ, zero, suc, ◌+◌, ◌-◌, ◌<◌, ◌≤◌, ◌⊎◌, ◌++◌, Bool, true, false, if◌then◌else◌, List}
use Rattle.std.proofs.Common.{[], ◌∷◌, length, drop, get_or, refl, sym, ◌∙◌, ap, append-nil, subst, inl, inr, arith}
use Rattle.std.specs.Prelude.{Some, slice_get}
use Rattle.std.proofs.lemmas.List.{get_or-drop, get_or_append_left, length-append, length-drop}
use Rattle.std.proofs.lemmas.Option.{get_or_from_slice_get, slice_get-get_or, slice_get_within}
use Rattle.address_map.specs.Locator.{line_at}
use Rattle.address_map.specs.declared.address.Local.{Local}
use Rattle.slice_answer.specs.declared.answer.Delivered.{Delivered}
use Rattle.slice_answer.specs.declared.answer.Delivered.TheVariants as delivered
use Rattle.slice_core_spec.specs.Next.{better_of, next_by}
use Rattle.slice_core_spec.specs.Calls.{AfterDeliverNext, AfterPlan, IsDone, IsMove, PartsView}
use Rattle.slice_core_spec.specs.Plan.{plan_of, planned_at}
use Rattle.slice_core_spec.specs.Ring.{first_of, is_move, looked_at, next_at, next_in, pick_of, ring_after_turn}
use Rattle.slice_core_spec.specs.Turn.{CanMove, PassOver, StandsAt, StandsBefore, TakesFrom}
use Rattle.slice_core_spec.specs.View.{View}
use Rattle.slice_queues.specs.Ring.{is_listed, with_listed}
use Rattle.slice_queues.specs.Pick.{line_of, pick_at}
use Rattle.slice_queues.specs.declared.channel.Channel.{Channel}
use Rattle.slice_queues.specs.declared.channel.Channel.TheVariants as channels
use Rattle.slice_queues.specs.declared.channel.Class.{Class}
use Rattle.slice_answer.specs.declared.answer.Delivery.TheVariants as deliveries
use Rattle.slice_answer.specs.declared.answer.Delivery.{Delivery}
use Rattle.slice_core_spec.specs.declared.transition.Transition.TheVariants as transitions
use Rattle.slice_core_spec.specs.declared.transition.Transition.{Transition}
use Rattle.slice_queues.specs.declared.channel.Pick.{Pick}

-- ---- the first that moves

-- where the one doesn't move, what moves is the other
or-other : (one other : Delivery (Local × Channel)) → is_move one ≡ false → is_move (better_of one other) ≡ true → better_of one other ≡ other
or-other (deliveries.Moved m) other still moves = cc
or-other (deliveries.Broken a) (deliveries.Moved m) still moves = refl
or-other (deliveries.Broken a) (deliveries.Broken b) still moves = cc
or-other (deliveries.Broken a) deliveries.Blocked still moves = cc
or-other (deliveries.Broken a) deliveries.Nothing still moves = cc
or-other deliveries.Blocked (deliveries.Moved m) still moves = refl
or-other deliveries.Blocked (deliveries.Broken b) still moves = cc
or-other deliveries.Blocked deliveries.Blocked still moves = cc
or-other deliveries.Blocked deliveries.Nothing still moves = cc
or-other deliveries.Nothing other still moves = refl

-- what moves is better than what doesn't, and than all after it
or-behind : (one other : Delivery (Local × Channel)) → is_move one ≡ false → is_move other ≡ true → better_of one other ≡ other
or-behind (deliveries.Moved m) other still moves = cc
or-behind (deliveries.Broken a) (deliveries.Moved m) still moves = refl
or-behind (deliveries.Broken a) (deliveries.Broken b) still moves = cc
or-behind (deliveries.Broken a) deliveries.Blocked still moves = cc
or-behind (deliveries.Broken a) deliveries.Nothing still moves = cc
or-behind deliveries.Blocked (deliveries.Moved m) still moves = refl
or-behind deliveries.Blocked (deliveries.Broken b) still moves = cc
or-behind deliveries.Blocked deliveries.Blocked still moves = cc
or-behind deliveries.Blocked deliveries.Nothing still moves = cc
or-behind deliveries.Nothing other still moves = refl

or-front : (one other : Delivery (Local × Channel)) → is_move one ≡ true → better_of one other ≡ one
or-front (deliveries.Moved m) other moves = refl
or-front (deliveries.Broken a) other moves = cc
or-front deliveries.Blocked other moves = cc
or-front deliveries.Nothing other moves = cc

-- what moves at a channel is planned there
pub move-planned : (local : Local) (channel : Channel) (plan : Delivery Transition)
    → is_move (next_by local channel plan) ≡ true
    → (next_by local channel plan ≡ deliveries.Moved (local, channel)) × IsMove plan
move-planned local channel deliveries.Nothing moves = cc
move-planned local channel deliveries.Blocked moves = cc
move-planned local channel (deliveries.Broken cell) moves = cc
move-planned local channel (deliveries.Moved step) moves = (refl, tt)

-- what moves of a line is a message of the line
pub first-channel : (v : View) (local : Local) (names : List Channel) → is_move (first_of v local names) ≡ true
    → (channel : Channel) × (first_of v local names ≡ deliveries.Moved (local, channel)) × IsMove (plan_of v local channel)
first-channel v local [] moves = cc
first-channel v local (channel ∷ rest) moves =
    by_first (is_move (next_by local channel (plan_of v local channel))) refl (first-channel v local rest)
  where
    by_first : (first : Bool) → is_move (next_by local channel (plan_of v local channel)) ≡ first
        → (is_move (first_of v local rest) ≡ true
        → (other : Channel) × (first_of v local rest ≡ deliveries.Moved (local, other)) × IsMove (plan_of v local other))
        → (other : Channel) × (first_of v local (channel ∷ rest) ≡ deliveries.Moved (local, other))
        × IsMove (plan_of v local other)
    by_first true e later =
        let there = move-planned local channel (plan_of v local channel) e in
        (channel, or-front _ (first_of v local rest) e ∙ there.0, there.1)
    by_first false e later =
        let same = or-other (next_by local channel (plan_of v local channel)) (first_of v local rest) e moves in
        let found = later (ap is_move (sym same) ∙ moves) in
        (found.0, same ∙ found.1, found.2)

-- a move is better than what doesn't move
or-any : (one other : Delivery (Local × Channel)) → is_move other ≡ true → is_move (better_of one other) ≡ true
or-any (deliveries.Moved m) other moves = refl
or-any (deliveries.Broken a) (deliveries.Moved m) moves = refl
or-any (deliveries.Broken a) (deliveries.Broken b) moves = cc
or-any (deliveries.Broken a) deliveries.Blocked moves = cc
or-any (deliveries.Broken a) deliveries.Nothing moves = cc
or-any deliveries.Blocked (deliveries.Moved m) moves = refl
or-any deliveries.Blocked (deliveries.Broken b) moves = cc
or-any deliveries.Blocked deliveries.Blocked moves = cc
or-any deliveries.Blocked deliveries.Nothing moves = cc
or-any deliveries.Nothing other moves = moves

planned-moves : (local : Local) (channel : Channel) (plan : Delivery Transition) → IsMove plan
    → is_move (next_by local channel plan) ≡ true
planned-moves local channel deliveries.Nothing move = absurd move
planned-moves local channel deliveries.Blocked move = absurd move
planned-moves local channel (deliveries.Broken cell) move = absurd move
planned-moves local channel (deliveries.Moved step) move = refl

-- where a message at one of these channels can be moved, the first such is next
some-moves : (v : View) (local : Local) (names : List Channel) (place : ℕ) (channel : Channel)
    → slice_get names place ≡ Some channel → IsMove (plan_of v local channel) → is_move (first_of v local names) ≡ true
some-moves v local [] place channel there move = cc
some-moves v local (first ∷ rest) zero channel there move =
    let same : first ≡ channel = cc in
    let one = planned-moves local first (plan_of v local first)
    (subst (λ (c : Channel). IsMove (plan_of v local c)) (sym same) move) in
    ap is_move (or-front _ (first_of v local rest) one) ∙ one
some-moves v local (first ∷ rest) (suc place) channel there move =
    or-any _ (first_of v local rest) (some-moves v local rest place channel there move)

next-moves : (v : View) (class : Class) (local : Local) → CanMove v class local
    → is_move (next_at v class local) ≡ true
next-moves v class local can = some-moves v local _ can.0 can.1 can.2 can.3

-- ---- which lines are looked at

-- A line with a message that can be moved is the first such, or follows all that are looked at.
reached : (v : View) (class : Class) (ring : List ℕ) (local : Local) (place : ℕ)
    → slice_get ring place ≡ Some local.0 → is_move (next_at v class local) ≡ true
    → (next_in v class ring ≡ next_at v class local) ⊎ (looked_at v class ring ≤ place)
reached v class [] local place stands moves = cc
reached v class (first ∷ rest) local zero stands moves =
    let same : first ≡ local.0 = cc in
    let P : ℕ → Type 0 = λ n. better_of (next_at v class (record { 0 = n })) (next_in v class rest) ≡
    next_at v class local in
    inl (subst P (sym same) (or-front (next_at v class local) (next_in v class rest) moves))
reached v class (first ∷ rest) local (suc place) stands moves =
    by_first (is_move (next_at v class (record { 0 = first }))) refl (reached v class rest local place stands moves)
  where
    by_first : (here : Bool) → is_move (next_at v class (record { 0 = first })) ≡ here
        → (next_in v class rest ≡ next_at v class local) ⊎ (looked_at v class rest ≤ place)
        → (next_in v class (first ∷ rest) ≡ next_at v class local)
        ⊎ ((if here then 1 else 1 + looked_at v class rest) ≤ suc place)
    by_first true e later = inr (omega arith)
    by_first false e (inl is) =
        inl (ap (better_of (next_at v class (record { 0 = first }))) is ∙ or-behind _ (next_at v class local) e moves)
    by_first false e (inr less) = inr (omega (arith, less))

-- one line at least is looked at where there is one
looked-some : (v : View) (class : Class) (ring : List ℕ) → 0 < length ring → 0 < looked_at v class ring
looked-some v class [] some = absurd (omega (arith, some))
looked-some v class (first ∷ rest) some = by_first (is_move (next_at v class (record { 0 = first })))
  where
    by_first : (here : Bool) → 0 < (if here then 1 else 1 + looked_at v class rest)
    by_first true = omega arith
    by_first false = omega arith

-- no more lines are looked at than are in the ring
pub looked-within : (v : View) (class : Class) (ring : List ℕ) → looked_at v class ring ≤ length ring
looked-within v class [] = omega arith
looked-within v class (first ∷ rest) =
    by_first (is_move (next_at v class (record { 0 = first }))) (looked-within v class rest)
  where
    by_first : (here : Bool) → looked_at v class rest ≤ length rest
        → (if here then 1 else 1 + looked_at v class rest) ≤ length (first ∷ rest)
    by_first true less = omega arith
    by_first false less = omega (arith, less)

-- ---- the ring after a delivery

-- the ring is the old one with lines after it
abbrev pub Extends : List ℕ → List ℕ → Type 0
Extends old new = (more : List ℕ) × (new ≡ old ++ more)

extends-same : (ring : List ℕ) → Extends ring ring
extends-same ring = ([], sym (append-nil ring))

extends-listed : (ring : List ℕ) (line : ℕ) → Extends ring (with_listed ring line)
extends-listed ring line = by_test (is_listed ring line)
  where
    by_test : (there : Bool) → Extends ring (if there then ring else ring ++ line ∷ [])
    by_test true = extends-same ring
    by_test false = (line ∷ [], refl)

extends-at : (old new : PartsView) (after : PartsView) → new ≡ after → Extends old.ring after.ring
    → Extends old.ring new.ring
extends-at old new after is extends = subst (λ (p : PartsView). Extends old.ring p.ring) (sym is) extends

extends-plan : (plan : Delivery Transition) (old new : PartsView) (local : Local) (channel : Channel) (answer : Delivered)
    → AfterPlan plan old local channel answer new → Extends old.ring new.ring
extends-plan deliveries.Nothing old new local channel answer after = extends-at old new _ after.1 (extends-same old.ring)
extends-plan deliveries.Blocked old new local channel answer after = extends-at old new _ after.1 (extends-same old.ring)
extends-plan (deliveries.Broken cell) old new local channel answer after =
    extends-at old new _ after.1 (extends-same old.ring)
extends-plan (deliveries.Moved (transitions.Directory step)) old new local channel answer after =
    extends-at old new _ after.1 (extends-listed old.ring local.0)
extends-plan (deliveries.Moved (transitions.Home step)) old new local channel answer after =
    extends-at old new _ after.1 (extends-listed old.ring local.0)
extends-plan (deliveries.Moved (transitions.Forwarded step)) old new local channel answer after =
    extends-at old new _ after.1 (extends-listed old.ring local.0)
extends-plan (deliveries.Moved (transitions.Fill step)) old new local channel answer after =
    extends-at old new _ after.1.3 (extends-listed old.ring local.0)
extends-plan (deliveries.Moved (transitions.Acknowledge step)) old new local channel answer after =
    extends-at old new _ after.1.3 (extends-listed old.ring local.0)

-- what is done of a next delivery leaves each line where it is
pub extends-done : (old new : PartsView) (answer : Delivery Pick) → IsDone old answer new → Extends old.ring new.ring
extends-done old new (deliveries.Moved pick) done =
    extends-plan (planned_at old.view pick) old new _ _ delivered.Moved done
extends-done old new deliveries.Nothing done = extends-at old new _ done (extends-same old.ring)
extends-done old new deliveries.Blocked done = extends-at old new _ done (extends-same old.ring)
extends-done old new (deliveries.Broken cell) done = extends-at old new _ done (extends-same old.ring)

pub longer : (old new : List ℕ) → Extends old new → length old ≤ length new
longer old new extends =
    let sum = ap length extends.1 ∙ length-append old extends.0 in
    omega (arith, sum)

-- ---- a line after those that are looked at

-- what follows `looked` elements is `looked` places nearer once these have gone
get-turned : (ring more behind : List ℕ) (looked place line : ℕ) → looked ≤ place → slice_get ring place ≡ Some line
    → slice_get (drop looked (ring ++ more) ++ behind) (place - looked) ≡ Some line
get-turned ring more behind looked place line few stands =
    let all = ring ++ more in
    let within = slice_get_within ring place line stands in
    let long = length-append ring more in
    let left = length-drop looked all in
    let whole = length-append (drop looked all) behind in
    let inside : place - looked < length (drop looked all) = omega (arith, few, within, long, left) in
    let within_all : place - looked < length (drop looked all ++ behind) = omega (arith, inside, whole) in
    let back : looked + (place - looked) ≡ place = omega (arith, few) in
    slice_get-get_or (drop looked all ++ behind) (place - looked) 0 within_all
    ∙ ap (λ (n : ℕ). Some n)
    (get_or_append_left (drop looked all) behind 0 (place - looked) inside
    ∙ get_or-drop looked all (place - looked) 0
    ∙ ap (λ n. get_or all n 0) back
    ∙ get_or_append_left ring more 0 place within
    ∙ get_or_from_slice_get ring place line 0 stands)

module _ (old : PartsView) (class : Class) (answer : Delivery Pick) (new : PartsView)
    (after : AfterDeliverNext old class answer new) (local : Local) (place : ℕ) (stands : StandsAt old local place)
    (moves : CanMove old.view class local) where
  took : (given : Delivery Pick) (channel : Channel)
      → given ≡ pick_of old.view.lines (deliveries.Moved (local, channel)) → TakesFrom old.view.lines local given
  took (deliveries.Moved pick) channel is =
      let same : pick ≡ pick_at (line_at old.view.lines local) channel = cc in
      ap line_of same ∙ of_line channel
    where
      of_line : (channel : Channel) → line_of (pick_at (line_at old.view.lines local) channel) ≡
          line_at old.view.lines local
      of_line (channels.Req core) = refl
      of_line (channels.Fwd core) = refl
      of_line (channels.Data core) = refl
      of_line (channels.Ack to from) = refl
      of_line channels.Home = refl
  took deliveries.Nothing channel is = cc
  took deliveries.Blocked channel is = cc
  took (deliveries.Broken cell) channel is = cc

  behind : looked_at old.view class old.ring ≤ place → StandsBefore new local place
  behind few =
      let looked = looked_at old.view class old.ring in
      let within = slice_get_within old.ring place local.0 stands in
      let some = looked-some old.view class old.ring (omega (arith, within)) in
      let extends = extends-done old after.done answer after.made in
      let at : slice_get (ring_after_turn after.done.view looked after.done.ring) (place - looked) ≡ Some local.0 =
      subst (λ (ring : List ℕ). slice_get (ring_after_turn after.done.view looked ring) (place - looked) ≡ Some local.0)
      (sym extends.1) (get-turned old.ring extends.0 _ looked place local.0 few stands) in (
        place - looked,
        omega (arith, few, some),
        subst (λ (p : PartsView). slice_get p.ring (place - looked) ≡ Some local.0) (sym after.turns) at,
      )

  -- The line is taken from, or is nearer to the front.
  pub comes-nearer : TakesFrom old.view.lines local answer ⊎ StandsBefore new local place
  comes-nearer = by (reached old.view class old.ring local place stands (next-moves old.view class local moves))
    where
      by : (next_in old.view class old.ring ≡ next_at old.view class local)
          ⊎ (looked_at old.view class old.ring ≤ place)
          → TakesFrom old.view.lines local answer ⊎ StandsBefore new local place
      by (inl is) =
          let found = first-channel old.view local _ (next-moves old.view class local moves) in
          inl (took answer found.0 (after.next ∙ ap (pick_of old.view.lines) (is ∙ found.1)))
      by (inr few) = inr (behind few)

-- As many next deliveries pass over a line as lines are in front of it, and no more.
pub passed-over : (local : Local) (class : Class) (old : PartsView) (answers : List (Delivery Pick)) (new : PartsView)
    (place : ℕ) → StandsAt old local place → PassOver local class old answers new → length answers ≤ place
passed-over local class old [] new place stands pass = omega arith
passed-over local class old (answer ∷ answers) new place stands pass =
    by (comes-nearer old class answer pass.2 pass.3 local place stands pass.0)
    (λ nearer there. passed-over local class pass.2 answers new nearer there pass.4)
  where
    by : TakesFrom old.view.lines local answer ⊎ StandsBefore pass.2 local place
        → ((nearer : ℕ) → StandsAt pass.2 local nearer → length answers ≤ nearer)
        → length (answer ∷ answers) ≤ place
    by (inl takes) rest = absurd (pass.1 takes)
    by (inr before) rest =
        let fewer = rest before.0 before.2 in
        omega (arith, fewer, before.1)
