-- A delivery at a channel returns what was to be done there, and leaves the state in which this was done.
use Rattle.std.proofs.Common.{◌≡◌, ◌≢◌, ◌∙◌, ap, refl, sym, subst}
use Rattle.address_map.specs.Locator.{line_at}
use Rattle.address_map.specs.declared.address.Local.{Local}
use Rattle.slice_answer.specs.declared.answer.Delivered.{Delivered}
use Rattle.slice_answer.specs.declared.answer.Delivered.TheVariants as delivered
use Rattle.slice_core_spec.specs.Next.{next_by, next_told}
use Rattle.slice_core_spec.specs.Calls.{AfterDelivery, AfterPlan, IsDone, PartsView}
use Rattle.slice_core_spec.specs.Plan.{plan_of}
use Rattle.slice_core_spec.specs.Ring.{pick_of}
use Rattle.slice_core_exec.proofs.NextAnswers.{delivered-at}
use Rattle.slice_core_exec.specs.Found.{IsLocated, IsMade}
use Rattle.slice_queues.specs.Pick.{pick_at}
use Rattle.slice_queues.specs.declared.channel.Channel.{Channel}
use Rattle.slice_queues.specs.declared.channel.Pick.{Pick}
use Rattle.slice_answer.specs.declared.answer.Delivery.TheVariants as deliveries
use Rattle.slice_answer.specs.declared.answer.Delivery.{Delivery}
use Rattle.slice_core_spec.specs.declared.transition.Transition.{Transition}

-- the answer says what was planned
told-plan : (plan : Delivery Transition) (old new : PartsView) (local : Local) (channel : Channel) (answer : Delivered)
    → AfterPlan plan old local channel answer new → next_told local channel answer ≡ next_by local channel plan
told-plan deliveries.Nothing old new local channel answer after = ap (next_told local channel) after.0
told-plan deliveries.Blocked old new local channel answer after = ap (next_told local channel) after.0
told-plan (deliveries.Broken cell) old new local channel answer after = ap (next_told local channel) after.0
told-plan (deliveries.Moved step) old new local channel answer after = ap (next_told local channel) after.0

pub told-by : (old now new : PartsView) (local : Local) (channel : Channel) (answer : Delivered) (one : Delivery (Local × Channel))
    → now ≡ old → one ≡ next_told local channel answer
    → AfterPlan (plan_of now.view local channel) now local channel answer new
    → one ≡ next_by local channel (plan_of old.view local channel)
told-by old now new local channel answer one same is after =
    subst (λ (p : PartsView). one ≡ next_by local channel (plan_of p.view local channel)) same
    (is ∙ told-plan _ now new local channel answer after)

-- what wasn't moved is as it was
unmoved : (plan : Delivery Transition) (old new : PartsView) (local : Local) (channel : Channel) (answer : Delivered)
    → AfterPlan plan old local channel answer new → answer ≢ delivered.Moved → new ≡ old
unmoved deliveries.Nothing old new local channel answer after stays = after.1
unmoved deliveries.Blocked old new local channel answer after stays = after.1
unmoved (deliveries.Broken cell) old new local channel answer after stays = after.1
unmoved (deliveries.Moved step) old new local channel answer after stays = absurd (stays after.0)

-- what was to be done at the channel is done
made-plan : (old new : PartsView) (local : Local) (channel : Channel) (answer : Delivered)
    → AfterPlan (plan_of old.view local channel) old local channel answer new
    → IsMade old (next_told local channel answer) new
made-plan old new local channel delivered.Moved after = after
made-plan old new local channel delivered.Blocked after =
    unmoved _ old new local channel _ after (λ same. absurd (cc same))
made-plan old new local channel delivered.Nothing after =
    unmoved _ old new local channel _ after (λ same. absurd (cc same))
made-plan old new local channel (delivered.Broken cell) after =
    unmoved _ old new local channel _ after (λ same. absurd (cc same))

pub made-by : (old now new : PartsView) (local : Local) (channel : Channel) (answer : Delivered) (one : Delivery (Local × Channel))
    → now ≡ old → one ≡ next_told local channel answer
    → AfterPlan (plan_of now.view local channel) now local channel answer new → IsMade old one new
made-by old now new local channel answer one same is after =
    subst (λ (p : PartsView). IsMade p one new) same (rw is (made-plan now new local channel answer after))

-- where nothing could be moved, nothing has changed
pub made-still : (old new : PartsView) (one : Delivery (Local × Channel))
    → ((at : Local × Channel) → one ≢ deliveries.Moved at) → IsMade old one new → new ≡ old
made-still old new deliveries.Nothing stays made = made
made-still old new deliveries.Blocked stays made = made
made-still old new (deliveries.Broken cell) stays made = made
made-still old new (deliveries.Moved at) stays made = absurd (stays at refl)

-- what was reported is done
pub made-done : (old new : PartsView) (next : Delivery (Local × Channel)) (answer : Delivery Pick) → IsLocated old.view.lines next
    → answer ≡ pick_of old.view.lines next → IsMade old next new → IsDone old answer new
made-done old new deliveries.Nothing (deliveries.Moved pick) there is made = cc
made-done old new deliveries.Nothing deliveries.Nothing there is made = made
made-done old new deliveries.Nothing deliveries.Blocked there is made = made
made-done old new deliveries.Nothing (deliveries.Broken cell) there is made = made
made-done old new deliveries.Blocked (deliveries.Moved pick) there is made = cc
made-done old new deliveries.Blocked deliveries.Nothing there is made = made
made-done old new deliveries.Blocked deliveries.Blocked there is made = made
made-done old new deliveries.Blocked (deliveries.Broken cell) there is made = made
made-done old new (deliveries.Broken cell) (deliveries.Moved pick) there is made = cc
made-done old new (deliveries.Broken cell) deliveries.Nothing there is made = made
made-done old new (deliveries.Broken cell) deliveries.Blocked there is made = made
made-done old new (deliveries.Broken cell) (deliveries.Broken other) there is made = made
made-done old new (deliveries.Moved at) (deliveries.Moved pick) there is made =
    let same : pick ≡ pick_at (line_at old.view.lines at.0) at.1 = cc in
    subst (λ (p : Pick). AfterDelivery old p delivered.Moved new) (sym same)
    (delivered-at old new at.0 at.1 (line_at old.view.lines at.0) delivered.Moved there made)
made-done old new (deliveries.Moved at) deliveries.Nothing there is made = cc
made-done old new (deliveries.Moved at) deliveries.Blocked there is made = cc
made-done old new (deliveries.Moved at) (deliveries.Broken cell) there is made = cc
