-- What each call leaves of the lines in front of a ring in which nothing waits.
use Rattle.std.proofs.Common.{◌≡◌, ℕ, zero, suc, ◌+◌, ◌<◌, ◌≤◌, Bool, true, false, if◌then◌else◌, List, [], ◌∷◌}
use Rattle.std.proofs.Common.{◌++◌, length, get_or, Option, Some, None, refl, sym, ap, ◌∙◌, subst}
use Rattle.std.proofs.Common.{arith, append-nil, length-append}
use Rattle.std.specs.Prelude.{slice_get, slice_set}
use Rattle.std.proofs.lemmas.List.{get_or-set_other}
use Rattle.address_map.specs.Locator.{local_at}
use Rattle.address_map.specs.declared.address.CoreId.{CoreId}
use Rattle.address_map.specs.declared.address.Local.{Local}
use Rattle.slice_answer.specs.declared.answer.Delivered.{Delivered}
use Rattle.slice_answer.specs.declared.answer.Delivery.TheVariants as deliveries
use Rattle.slice_answer.specs.declared.answer.Delivery.{Delivery}
use Rattle.slice_core_spec.specs.Calls.{PartsView, AfterDelivery, AfterHand, AfterPlan, local_in}
use Rattle.slice_core_spec.specs.Plan.{plan_of, planned_in}
use Rattle.slice_core_spec.specs.View.{channels_at}
use Rattle.slice_core_spec.specs.declared.transition.Transition.TheVariants as transitions
use Rattle.slice_core_spec.specs.declared.transition.Transition.{Transition}
use Rattle.slice_core_exec.proofs.NextLaws.{plan-idle}
use Rattle.slice_log.specs.declared.entry.Numbered.{Numbered}
use Rattle.slice_queues.specs.Line.{LineChannels, empty_line, messages_at}
use Rattle.slice_queues.specs.Ring.{is_listed, with_listed}
use Rattle.slice_queues.specs.Waiting.{line_waiting}
use Rattle.slice_queues.specs.Pick.{channel_of, line_of as line_of_pick}
use Rattle.slice_queues.specs.declared.channel.Channel.{Channel}
use Rattle.slice_queues.specs.declared.channel.Pick.{Pick}
use Rattle.program_run.specs.Front.{HasIdleFront, IsIdle}

-- an element of the front of a list
in-front : {X : Type 0} (xs ys : List X) (k : ℕ) (x : X) → k < length xs → slice_get (xs ++ ys) k ≡ Some x
    → slice_get xs k ≡ Some x
in-front [] ys k x within h = absurd (omega arith)
in-front (z ∷ zs) ys zero x within h = h
in-front (z ∷ zs) ys (suc k) x within h = in-front zs ys k x (omega (arith, within)) h

-- lines come into the ring after the others, and nothing was sent to those in front
pub front-kept : (count less : ℕ) (old new : PartsView) (more : List ℕ) → less ≤ count → new.ring ≡ old.ring ++ more
    → ((place local : ℕ) → place < less → slice_get new.ring place ≡ Some local → IsIdle old.view (record { 0 = local })
    → channels_at new.view (record { 0 = local }) ≡ channels_at old.view (record { 0 = local }))
    → HasIdleFront count old → HasIdleFront less new
front-kept count less old new more few grows same front =
    let long : length new.ring ≡ length old.ring + length more = ap length grows ∙ length-append old.ring more in record {
      within = omega (arith, few, front.within, long);
      idle = λ place local below stands.
          let was : slice_get old.ring place ≡ Some local =
          in-front old.ring more place local (omega (arith, few, below, front.within))
          (sym (ap (λ (ring : List ℕ). slice_get ring place) grows) ∙ stands) in
          let idle = front.idle place local (omega (arith, few, below)) was in
          let kept = same place local below stands idle in
          record {
            waiting = ap line_waiting kept ∙ idle.waiting;
            empty = λ channel. ap (λ (line : LineChannels). messages_at line channel) kept ∙ idle.empty channel;
          };
    }

-- a line that comes into the ring follows the others
pub listed : (ring : List ℕ) (local : ℕ) → (more : List ℕ) × (with_listed ring local ≡ ring ++ more)
listed ring local = by (is_listed ring local)
  where
    by : (there : Bool) → (more : List ℕ) × ((if there then ring else ring ++ local ∷ []) ≡ ring ++ more)
    by true = ([], sym (append-nil ring))
    by false = (local ∷ [], refl)

-- ---- a delivery

stays : (count : ℕ) (old new : PartsView) → new ≡ old → HasIdleFront count old → HasIdleFront count new
stays count old new same front = subst (HasIdleFront count) (sym same) front

-- a message was taken from a line in which one waited, and all that was sent is of this line
taken : (count : ℕ) (old new : PartsView) (local : Local) (channel : Channel) (step : Transition) (line : LineChannels)
    → plan_of old.view local channel ≡ deliveries.Moved step
    → new.ring ≡ with_listed old.ring local.0 → new.view.channels ≡ slice_set old.view.channels local.0 line
    → HasIdleFront count old → HasIdleFront count new
taken count old new local channel step line moves ring sends front =
    let (more, grows) = listed old.ring local.0 in
    front-kept count count old new more (omega arith) (ring ∙ grows)
    (λ place other below stands idle.
    ap (λ (all : List LineChannels). get_or all other (empty_line 0)) sends
    ∙ get_or-set_other old.view.channels local.0 other line (empty_line 0)
    (λ same.
    let none : plan_of old.view local channel ≡ deliveries.Nothing =
    plan-idle old.view local channel
    (subst (λ n. messages_at (channels_at old.view (record { 0 = n })) channel ≡ []) same (idle.empty channel)) in
    let clash : deliveries.Nothing ≡ deliveries.Moved step = sym none ∙ moves in cc clash))
    front

planned-front : (count : ℕ) (plan : Delivery Transition) (old : PartsView) (local : Local) (channel : Channel)
    (answer : Delivered) (new : PartsView) → plan_of old.view local channel ≡ plan
    → AfterPlan plan old local channel answer new → HasIdleFront count old → HasIdleFront count new
planned-front count deliveries.Nothing old local channel answer new is after front = stays count old new after.1 front
planned-front count deliveries.Blocked old local channel answer new is after front = stays count old new after.1 front
planned-front count (deliveries.Broken cell) old local channel answer new is after front =
    stays count old new after.1 front
planned-front count (deliveries.Moved (transitions.Directory step)) old local channel answer new is after front =
    taken count old new local channel _ _ is (ap (λ (p : PartsView). p.ring) after.1)
    (ap (λ (p : PartsView). p.view.channels) after.1) front
planned-front count (deliveries.Moved (transitions.Home step)) old local channel answer new is after front =
    taken count old new local channel _ _ is (ap (λ (p : PartsView). p.ring) after.1)
    (ap (λ (p : PartsView). p.view.channels) after.1) front
planned-front count (deliveries.Moved (transitions.Forwarded step)) old local channel answer new is after front =
    taken count old new local channel _ _ is (ap (λ (p : PartsView). p.ring) after.1)
    (ap (λ (p : PartsView). p.view.channels) after.1) front
planned-front count (deliveries.Moved (transitions.Fill step)) old local channel answer new is after front =
    taken count old new local channel _ _ is (ap (λ (p : PartsView). p.ring) after.1.3)
    (ap (λ (p : PartsView). p.view.channels) after.1.3) front
planned-front count (deliveries.Moved (transitions.Acknowledge step)) old local channel answer new is after front =
    taken count old new local channel _ _ is (ap (λ (p : PartsView). p.ring) after.1.3)
    (ap (λ (p : PartsView). p.view.channels) after.1.3) front

module _ (count : ℕ) (old : PartsView) (pick : Pick) (answer : Delivered) (new : PartsView)
    (front : HasIdleFront count old) where
  abbrev by_place : Option Local → Type 0
  by_place place =
      AfterPlan (planned_in old.view place (channel_of pick)) old (local_in place) (channel_of pick) answer new

  found : (place : Option Local) → by_place place → HasIdleFront count new
  found None after = stays count old new after.1 front
  found (Some local) after =
      planned-front count (plan_of old.view local (channel_of pick)) old local (channel_of pick) answer new refl after
      front

  pub delivery-front : AfterDelivery old pick answer new → HasIdleFront count new
  delivery-front after = found (local_at old.view.lines (line_of_pick pick).0) after

pub hand-front : (count : ℕ) (old : PartsView) (core : CoreId) (answer : Option Numbered) (new : PartsView)
    → AfterHand old core answer new → HasIdleFront count old → HasIdleFront count new
hand-front count old core None new after front = stays count old new after.1 front
hand-front count old core (Some given) new after front =
    front-kept count count old new [] (omega arith)
    (ap (λ (p : PartsView). p.ring) after.3 ∙ sym (append-nil old.ring))
    (λ place local below stands idle. ap (λ (p : PartsView). channels_at p.view (record { 0 = local })) after.3)
    front
