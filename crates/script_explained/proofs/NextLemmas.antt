-- The step of a slice's next delivery, which is the one that was named before it was made.
use Rattle.std.proofs.Common.{◌≡◌, ◌≢◌, ℕ, Some, None, ap, refl, sym, ◌∙◌}
use Rattle.script_explained.specs.Step.{moved_at, next_step}
use Rattle.slice_core_spec.specs.View.{View}
use Rattle.slice_queues.specs.declared.channel.Pick.{Pick}
use Rattle.slice_answer.specs.declared.answer.Delivery.TheVariants as deliveries
use Rattle.slice_answer.specs.declared.answer.Delivery.{Delivery}

-- where none could be made, none
pub nothing_next : (slice : ℕ) (answer : Delivery Pick) (next : Delivery Pick) (old new : View) → answer ≡ next
    → ((pick : Pick) → next ≢ deliveries.Moved pick) → next_step slice answer old new ≡ None
nothing_next slice (deliveries.Moved pick) next old new is none = absurd (none pick (sym is))
nothing_next slice deliveries.Nothing next old new is none = refl
nothing_next slice deliveries.Blocked next old new is none = refl
nothing_next slice (deliveries.Broken cell) next old new is none = refl

-- where one was, the message that was delivered
pub made_next : (slice : ℕ) (answer : Delivery Pick) (next : Delivery Pick) (pick : Pick) (old new : View)
    → answer ≡ next → next ≡ deliveries.Moved pick
    → next_step slice answer old new ≡ Some (moved_at slice pick old new)
made_next slice (deliveries.Moved other) next pick old new is move =
    let same : other ≡ pick = cc (is, move) in ap (λ (p : Pick). Some (moved_at slice p old new)) same
made_next slice deliveries.Nothing next pick old new is move = absurd (cc (is, move))
made_next slice deliveries.Blocked next pick old new is move = absurd (cc (is, move))
made_next slice (deliveries.Broken cell) next pick old new is move = absurd (cc (is, move))
