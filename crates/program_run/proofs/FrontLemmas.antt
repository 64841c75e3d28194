-- The next delivery after lines in which nothing waits.
use Rattle.std.proofs.Common.{◌≡◌, ◌≢◌, ℕ, zero, suc, ◌+◌, ◌/◌, ◌%◌, ◌<◌, ◌≤◌, Bool, true, false, if◌then◌else◌}
use Rattle.std.proofs.Common.{List, [], ◌∷◌, length, map, Option, Some, None, refl, sym, ap, ◌∙◌, subst}
use Rattle.std.proofs.Common.{⊎_elim, arith}
use Rattle.std.specs.Prelude.{◌==◌, ◌&&◌, filter, nat_lt, slice_get}
use Rattle.std.proofs.lemmas.Bool.{and_parts, cases_eq, eqb-true, ltb-false}
use Rattle.std.proofs.lemmas.Nat.{div-add-mod'}
use Rattle.address_map.specs.Locator.{IsOfMachine, Lines, line_at, local_at}
use Rattle.address_map.specs.declared.address.LineAddr.{LineAddr}
use Rattle.address_map.specs.declared.address.Local.{Local}
use Rattle.slice_answer.specs.Delivery.{better_of}
use Rattle.slice_answer.specs.declared.answer.Delivery.TheVariants as deliveries
use Rattle.slice_answer.specs.declared.answer.Delivery.{Delivery}
use Rattle.slice_core.specs.Facts.{AreWaitingAt, Holds}
use Rattle.slice_core_theory.proofs.Requests.{one_line}
use Rattle.slice_core_spec.specs.Calls.{PartsView, next_pick}
use Rattle.slice_core_spec.specs.Next.{next_by}
use Rattle.slice_core_spec.specs.Parts.{ring_lines}
use Rattle.slice_core_spec.specs.Plan.{plan_of, planned_at, planned_in}
use Rattle.slice_core_spec.specs.Ring.{first_of, next_at, next_in, pick_of}
use Rattle.slice_core_spec.specs.View.{View, channels_at}
use Rattle.slice_core_spec.specs.declared.transition.Transition.{Transition}
use Rattle.slice_queues.specs.Line.{messages_at}
use Rattle.slice_queues.specs.Waiting.{line_waiting}
use Rattle.slice_queues.specs.Class.{is_of_class}
use Rattle.slice_queues.specs.Pick.{pick_at}
use Rattle.slice_queues.specs.declared.channel.Channel.{Channel}
use Rattle.slice_queues.specs.declared.channel.Channel.TheVariants as channels
use Rattle.slice_queues.specs.declared.channel.Class.TheVariants as classes
use Rattle.slice_queues.specs.declared.channel.Pick.{Pick}
use Rattle.slice_queues.specs.declared.message.Message.{Message}
use Rattle.program_run.specs.Front.{HasIdleFront, IsApart, IsFront, IsIdle, IsLineFront, WaitsFirst, delivery_if}
use Rattle.program_run.specs.Run.{delivery_of}
use Rattle.program_run.specs.declared.front.Front.TheVariants as fronts

-- ---- a line

-- a channel in which no message waits is empty
empty-channel : (xs : List Message) → zero ≡ (if nat_lt 0 (length xs) then 1 else 0) → xs ≡ []
empty-channel [] none = refl
empty-channel (x ∷ xs) none = by (nat_lt 0 (length (x ∷ xs))) (λ not. ltb-false 0 (length (x ∷ xs)) not) none
  where
    by : (b : Bool) → (b ≡ false → length (x ∷ xs) ≤ 0) → zero ≡ (if b then 1 else 0) → x ∷ xs ≡ []
    by true few none = absurd (omega arith)
    by false few none = absurd (let short = few refl in omega arith)

pub idle-line : (v : View) (line : LineAddr) (place : Option Local) (shown : List Channel) → AreWaitingAt v place shown
    → None ≡ slice_get shown 0 → IsLineFront v line place fronts.Idle
idle-line v line None shown are none = absurd are
idle-line v line (Some local) [] are none = (
  local,
  refl,
  record { waiting = sym are.0; empty = λ channel. empty-channel (messages_at (channels_at v local) channel) (are.1 channel) },
)
idle-line v line (Some local) (channel ∷ shown) are none = absurd (cc none)

pub waiting-line : (v : View) (line : LineAddr) (place : Option Local) (shown : List Channel) (channel : Channel)
    → place ≡ local_at v.lines line.0 → AreWaitingAt v place shown → Some channel ≡ slice_get shown 0
    → IsLineFront v line place (fronts.Waits (pick_at line channel))
waiting-line v line None shown channel at are first = absurd are
waiting-line v line (Some local) [] channel at are first = absurd (cc first)
waiting-line v line (Some local) (one ∷ shown) channel at are first =
    let same : one ≡ channel = cc first in (
      local,
      record {
        there = sym at;
        channel = channel;
        rest = shown;
        waiting = sym are.0 ∙ ap (λ (c : Channel). c ∷ shown) same;
        is = refl;
      },
    )

-- ---- the ring

-- a slice that was reached has some of a machine's lines
pub machine_of : (p : PartsView) → Holds p → IsOfMachine p.view.lines
unfolding Rattle.slice_core.specs.Facts.IsReached
machine_of p holds = holds.reached.addressed.machine

-- the line at the place of a line is that line
pub line-named : (own : Lines) (line : LineAddr) (local : Local) → local_at own line.0 ≡ Some local
    → line.0 ≡ (line_at own local).0
line-named own line local =
    by (line.0 % own.slices == own.slice && nat_lt (line.0 / own.slices) own.lines)
    (record { 0 = line.0 / own.slices })
    (λ mine.
    let at : line.0 % own.slices ≡ own.slice =
    eqb-true (line.0 % own.slices) own.slice
    (and_parts (line.0 % own.slices == own.slice) (nat_lt (line.0 / own.slices) own.lines) mine).0 in
    omega (arith, at, div-add-mod' line.0 own.slices))
  where
    by : (mine : Bool) (here : Local) → (mine ≡ true → line.0 ≡ (line_at own here).0)
        → (if mine then Some here else None) ≡ Some local → line.0 ≡ (line_at own local).0
    by true here names is =
        let same : here ≡ local = cc is in subst (λ (l : Local). line.0 ≡ (line_at own l).0) same (names refl)
    by false here names is = absurd (cc is)

-- a line is at one place
pub same-place : (own : Lines) (l found : Local) → IsOfMachine own → local_at own (line_at own l).0 ≡ Some found
    → found ≡ l
same-place own l found machine is =
    let same : found.0 ≡ l.0 = sym (one_line own machine l found (line-named own (line_at own l) found is)) in
    ap (λ n. record { 0 = n }) same

-- what is at a place of the ring
pub in-ring : {X Y : Type 0} (f : X → Y) (xs : List X) (i : ℕ) (y : Y) → slice_get (map f xs) i ≡ Some y
    → (x : X) × (slice_get xs i ≡ Some x) × (y ≡ f x)
in-ring f [] i y is = absurd (cc is)
in-ring f (x ∷ xs) zero y is = (x, refl, cc is)
in-ring f (x ∷ xs) (suc i) y is = in-ring f xs i y is

past-ring : {X Y : Type 0} (f : X → Y) (xs : List X) (i : ℕ) → None ≡ slice_get (map f xs) i → length xs ≤ i
past-ring f [] i is = omega arith
past-ring f (x ∷ xs) zero is = absurd (cc is)
past-ring f (x ∷ xs) (suc i) is = let past = past-ring f xs i is in omega (arith, past)

pub within-ring : {X : Type 0} (xs : List X) (i : ℕ) (x : X) → slice_get xs i ≡ Some x → i < length xs
within-ring [] i x is = absurd (cc is)
within-ring (y ∷ xs) zero x is = omega arith
within-ring (y ∷ xs) (suc i) x is = let within = within-ring xs i x is in omega (arith, within)

-- after the last line all are idle
pub front-past : (p : PartsView) (count : ℕ) → HasIdleFront count p → None ≡ slice_get (ring_lines p) count
    → IsFront p count fronts.Idle
front-past p count idle none =
    let past = past-ring (λ place. line_at p.view.lines (record { 0 = place })) p.ring count none in
    omega (arith, past, idle.within)

-- one more line is idle
pub front-more : (p : PartsView) (count : ℕ) (line : LineAddr) → Holds p → HasIdleFront count p
    → Some line ≡ slice_get (ring_lines p) count
    → IsLineFront p.view line (local_at p.view.lines line.0) fronts.Idle → HasIdleFront (count + 1) p
front-more p count line holds idle found is =
    let (l, at, named) = in-ring (λ place. line_at p.view.lines (record { 0 = place })) p.ring count line (sym found) in
    let there : local_at p.view.lines (line_at p.view.lines (record { 0 = l })).0 ≡ Some is.0 =
    ap (λ (line : LineAddr). local_at p.view.lines line.0) (sym named) ∙ is.1 in
    let same = same-place p.view.lines (record { 0 = l }) is.0 (machine_of p holds) there in
    let here : IsIdle p.view (record { 0 = l }) = subst (IsIdle p.view) same is.2 in
    let within = within-ring p.ring count l at in record {
      within = omega (arith, within);
      idle = λ place local below stands.
          ⊎_elim
          (λ last.
          let same : l ≡ local = let both = sym at ∙ ap (slice_get p.ring) (sym last) ∙ stands in cc both in
          subst (λ n. IsIdle p.view (record { 0 = n })) same here)
          (λ before. idle.idle place local (omega (arith, below, before)) stands)
          (cases_eq place count);
    }

-- a message waits in the first line that isn't idle
pub front-found : (p : PartsView) (count : ℕ) (line : LineAddr) (pick : Pick) → Holds p
    → Some line ≡ slice_get (ring_lines p) count
    → IsLineFront p.view line (local_at p.view.lines line.0) (fronts.Waits pick) → IsFront p count (fronts.Waits pick)
front-found p count line pick holds found is =
    let (l, at, named) = in-ring (λ place. line_at p.view.lines (record { 0 = place })) p.ring count line (sym found) in
    let there : local_at p.view.lines (line_at p.view.lines (record { 0 = l })).0 ≡ Some is.0 =
    ap (λ (line : LineAddr). local_at p.view.lines line.0) (sym named) ∙ is.1.there in
    let same = same-place p.view.lines (record { 0 = l }) is.0 (machine_of p holds) there in
    let waits : WaitsFirst p.view (line_at p.view.lines is.0) is.0 pick =
    subst (λ (place : Local). WaitsFirst p.view (line_at p.view.lines place) is.0 pick) (sym same)
    (subst (λ (line : LineAddr). WaitsFirst p.view line is.0 pick) named is.1) in (
      is.0,
      at ∙ ap (λ (place : Local). Some place.0) (sym same),
      waits,
    )

-- ---- what is next

-- what is planned at the pick of a channel of a line
planned-there : (v : View) (line : LineAddr) (local : Local) (channel : Channel) → local_at v.lines line.0 ≡ Some local
    → planned_at v (pick_at line channel) ≡ plan_of v local channel
planned-there v line local (channels.Req core) there =
    ap (λ (place : Option Local). planned_in v place (channels.Req core)) there
planned-there v line local (channels.Fwd core) there =
    ap (λ (place : Option Local). planned_in v place (channels.Fwd core)) there
planned-there v line local (channels.Data core) there =
    ap (λ (place : Option Local). planned_in v place (channels.Data core)) there
planned-there v line local (channels.Ack to from) there =
    ap (λ (place : Option Local). planned_in v place (channels.Ack to from)) there
planned-there v line local channels.Home there =
    ap (λ (place : Option Local). planned_in v place channels.Home) there

-- an idle line has no next delivery
next-idle : (v : View) (local : Local) → IsIdle v local → next_at v classes.Any local ≡ deliveries.Nothing
next-idle v local idle =
    ap (λ (names : List Channel). first_of v local (filter (is_of_class classes.Any) names)) idle.waiting

-- the first message of a line is its next delivery, where it can be moved
next-first : (v : View) (local : Local) (channel : Channel) (rest : List Channel) (step : Transition)
    → line_waiting (channels_at v local) ≡ channel ∷ rest → plan_of v local channel ≡ deliveries.Moved step
    → next_at v classes.Any local ≡ deliveries.Moved (local, channel)
next-first v local channel rest step waits plan =
    ap (λ (names : List Channel). first_of v local (filter (is_of_class classes.Any) names)) waits
    ∙ ap (λ (plan : Delivery Transition). better_of (next_by local channel plan)
    (first_of v local (filter (is_of_class classes.Any) rest))) plan

next-behind : (v : View) (ring : List ℕ) (count : ℕ) (local : Local) (channel : Channel)
    → ((place l : ℕ) → place < count → slice_get ring place ≡ Some l → IsIdle v (record { 0 = l }))
    → slice_get ring count ≡ Some local.0 → next_at v classes.Any local ≡ deliveries.Moved (local, channel)
    → next_in v classes.Any ring ≡ deliveries.Moved (local, channel)
next-behind v [] count local channel idle found next = absurd (cc found)
next-behind v (l ∷ ring) zero local channel idle found next =
    let same : l ≡ local.0 = cc found in
    ap (λ n. better_of (next_at v classes.Any (record { 0 = n })) (next_in v classes.Any ring)) same
    ∙ ap (λ (first : Delivery (Local × Channel)). better_of first (next_in v classes.Any ring)) next
next-behind v (l ∷ ring) (suc count) local channel idle found next =
    ap (λ (first : Delivery (Local × Channel)). better_of first (next_in v classes.Any ring))
    (next-idle v (record { 0 = l }) (idle 0 l (omega arith) refl))
    ∙ next-behind v ring count local channel (λ place m below at. idle (suc place) m (omega (arith, below)) at) found
    next

next-none : (v : View) (ring : List ℕ)
    → ((place l : ℕ) → slice_get ring place ≡ Some l → IsIdle v (record { 0 = l }))
    → next_in v classes.Any ring ≡ deliveries.Nothing
next-none v [] idle = refl
next-none v (l ∷ ring) idle =
    ap (λ (first : Delivery (Local × Channel)). better_of first (next_in v classes.Any ring))
    (next-idle v (record { 0 = l }) (idle 0 l refl))
    ∙ next-none v ring (λ place m at. idle (suc place) m at)

-- the first message after idle lines is next, where it can be moved
pub next-planned : (p : PartsView) (count : ℕ) (pick : Pick) (step : Transition) → HasIdleFront count p
    → IsFront p count (fronts.Waits pick) → planned_at p.view pick ≡ deliveries.Moved step
    → delivery_of (next_pick p classes.Any) ≡ delivery_if (Some pick)
next-planned p count pick step idle front plan =
    let local = front.0 in
    let waits = front.2 in
    let line = line_at p.view.lines local in
    let planned : plan_of p.view local waits.channel ≡ deliveries.Moved step =
    sym (planned-there p.view line local waits.channel waits.there)
    ∙ ap (planned_at p.view) (sym waits.is) ∙ plan in
    let next : next_in p.view classes.Any p.ring ≡ deliveries.Moved (local, waits.channel) =
    next-behind p.view p.ring count local waits.channel idle.idle front.1
    (next-first p.view local waits.channel waits.rest step waits.waiting planned) in
    ap (λ (found : Delivery (Local × Channel)). delivery_of (pick_of p.view.lines found)) next
    ∙ ap (λ (at : Pick). delivery_if (Some at)) (sym waits.is)

-- where all lines are idle nothing is next
pub next-empty : (p : PartsView) (count : ℕ) → HasIdleFront count p → IsFront p count fronts.Idle
    → delivery_of (next_pick p classes.Any) ≡ delivery_if None
next-empty p count idle all =
    let none : next_in p.view classes.Any p.ring ≡ deliveries.Nothing =
    next-none p.view p.ring
    (λ place l at. let within = within-ring p.ring place l at in
    idle.idle place l (omega (arith, all, within)) at) in
    ap (λ (found : Delivery (Local × Channel)). delivery_of (pick_of p.view.lines found)) none

-- one more line is apart
pub apart-more : (p : PartsView) (count : ℕ) (line : LineAddr) (left here : Option LineAddr) → IsApart p count line left
    → here ≡ slice_get (ring_lines p) count → (here ≢ Some line) × (here ≢ left) → IsApart p (count + 1) line left
apart-more p count line left here apart is other = λ place below.
    ⊎_elim
    (λ last.
    let same : slice_get (ring_lines p) place ≡ here = ap (slice_get (ring_lines p)) last ∙ sym is in
    ((λ named. other.0 (sym same ∙ named)), (λ gone. other.1 (sym same ∙ gone))))
    (λ before. apart place (omega (arith, below, before))) (cases_eq place count)

-- a place with a line is one of the ring
pub within-front : (p : PartsView) (count : ℕ) (line : LineAddr) → Some line ≡ slice_get (ring_lines p) count
    → count < length p.ring
within-front p count line found =
    let (l, at, named) = in-ring (λ place. line_at p.view.lines (record { 0 = place })) p.ring count line (sym found) in
    within-ring p.ring count l at
