-- The lines of the messages in flight, in the pieces in which they are written.
use Rattle.std.proofs.Common.{◌≡◌, ◌≢◌, ℕ, List, [], ◌∷◌, ◌++◌, Option, Some, None, codes, drop, refl, sym, subst, ap}
use Rattle.std.proofs.Common.{append_assoc, ◌∙◌}
use Rattle.std.proofs.Output.{writes_in_calls_append}
use Rattle.std.proofs.lemmas.Grind.{flat_map-append}
use Rattle.std.specs.Fmt.{WritesInCalls}
use Rattle.std.specs.List.{slice_get}
use Rattle.address_map.specs.declared.address.Local.{Local}
use Rattle.slice_text.specs.Message.{text_of_message}
use Rattle.litmus_script.specs.Waiting.{flights_of, in_flight, lines_of, picks_of, receiver_state, text_at}
use Rattle.litmus_script.specs.Waiting.{text_in_front, text_of_flights, text_of_plan}
use Rattle.litmus_text.specs.Command.{parts_of}
use Rattle.litmus_text.specs.declared.command.Command.TheVariants.{Deliver}
use Rattle.litmus_text.specs.Line.{text_of_parts}
use Rattle.slice_core.specs.Facts.{front_at}
use Rattle.slice_answer.specs.declared.answer.Cell.{Cell}
use Rattle.slice_core_spec.specs.Calls.{PartsView}
use Rattle.slice_core_spec.specs.Plan.{planned_at}
use Rattle.slice_core_spec.specs.View.{View}
use Rattle.slice_queues.specs.Pick.{channel_of}
use Rattle.slice_queues.specs.declared.channel.Pick.{Pick}
use Rattle.slice_queues.specs.declared.message.Message.{Message}
use Rattle.slice_answer.specs.declared.answer.Delivery.TheVariants as deliveries
use Rattle.slice_answer.specs.declared.answer.Delivery.{Delivery}
use Rattle.slice_core_spec.specs.declared.transition.Transition.{Transition}

-- the lines of a slice, and then those of the slices after it
pub lines_of_slices : (state : PartsView) (more : List PartsView) → lines_of (in_flight (state ∷ more)) ≡
    lines_of (flights_of state.view (picks_of state.view)) ++ lines_of (in_flight more)
lines_of_slices state more =
    flat_map-append (λ (flight : View × Pick). text_at flight.0 flight.1)
    (flights_of state.view (picks_of state.view)) (in_flight more)

-- where messages are in flight their lines are the text
pub text_of_some : (flights : List (View × Pick)) → flights ≢ [] → text_of_flights flights ≡ lines_of flights
text_of_some [] some = absurd (some refl)
text_of_some (flight ∷ more) some = refl

-- what a delivery does that can be made
pub moves : (plan : Delivery Transition) (state : List ℕ) → plan ≢ deliveries.Nothing → plan ≢ deliveries.Blocked
    → ((cell : Cell) → plan ≢ deliveries.Broken cell)
    → codes "moves" ≡ text_of_plan plan state
moves deliveries.Nothing state nothing blocked broken = absurd (nothing refl)
moves deliveries.Blocked state nothing blocked broken = absurd (blocked refl)
moves (deliveries.Broken cell) state nothing blocked broken = absurd (broken cell refl)
moves (deliveries.Moved step) state nothing blocked broken = refl

module _ {W : Type 0} (took : W → List ℕ → W → Type 0) (v : View) where
  -- the line of the next message, and then those after it
  pub next_line : (left : List Pick) (pick : Pick) → Some pick ≡ slice_get left 0 → (old mid new : W)
      → WritesInCalls took old (text_at v pick) mid → WritesInCalls took mid (lines_of (flights_of v (drop 1 left))) new
      → WritesInCalls took old (lines_of (flights_of v left)) new
  next_line [] pick first old mid new one rest = absurd (cc)
  next_line (p ∷ more) pick first old mid new one rest =
      let is : pick ≡ p = cc (first) in
      writes_in_calls_append took old (text_at v p) mid _ new
      (subst (λ (q : Pick). WritesInCalls took old (text_at v q) mid) is one) rest

  -- the words of a message in front of a channel, and then what a delivery would do
  pub whole_line : (pick : Pick) (local : Option Local) (message : Message) (plan : Delivery Transition)
      → Some message ≡ front_at v local (channel_of pick) → plan ≡ planned_at v pick → (old mid new : W)
      → WritesInCalls took old
      (text_of_parts (parts_of (Deliver pick)) ++ (codes "   " ++ (text_of_message message ++ codes "   "))) mid
      → ((at : Local) → local ≡ Some at
      → WritesInCalls took mid (text_of_plan plan (receiver_state v at (channel_of pick)) ++ codes "\n") new)
      → WritesInCalls took old (text_in_front v pick local (front_at v local (channel_of pick))) new
  whole_line pick None message plan front planned old mid new words rest = absurd (cc)
  whole_line pick (Some at) message plan front planned old mid new words rest =
      let name = text_of_message message in
      let deliver = text_of_parts (parts_of (Deliver pick)) in
      let does = text_of_plan plan (receiver_state v at (channel_of pick)) in
      let pieces : ((deliver ++ codes "   " ++ name ++ codes "   ") ++ does) ++ codes "\n"
      ≡ (deliver ++ (codes "   " ++ (name ++ codes "   "))) ++ (does ++ codes "\n") =
      append_assoc (deliver ++ codes "   " ++ name ++ codes "   ") does (codes "\n")
      ∙ ap (λ (text : List ℕ). text ++ (does ++ codes "\n"))
      (append_assoc (deliver ++ codes "   ") name (codes "   ")
      ∙ append_assoc deliver (codes "   ") (name ++ codes "   ")) in
      let written = subst (λ (text : List ℕ). WritesInCalls took old text new) (sym pieces)
      (writes_in_calls_append took old _ mid _ new words (rest at refl)) in
      subst (λ (m : Option Message). WritesInCalls took old (text_in_front v pick (Some at) m) new) front
      (subst (λ (p : Delivery Transition). WritesInCalls took old (((deliver ++ codes "   " ++ name ++ codes "   ")
      ++ text_of_plan p (receiver_state v at (channel_of pick))) ++ codes "\n") new)
      planned written)
