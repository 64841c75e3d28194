-- What the threads of a walk have done, call by call.
use Rattle.std.proofs.Common.{◌≡◌, ℕ, zero, suc, ◌+◌, ◌<◌, ◌∙◌, true, false, inl, inr, List, [], ◌∷◌, ◌++◌, Some, None}
use Rattle.std.proofs.Common.{ap, append-nil, append_assoc, arith, eq-eqb, get_or, length, refl, replicate, subst, sym, take}
use Rattle.std.specs.Prelude.{IsSomeAnd, slice_get, slice_set}
use Rattle.std.specs.List.{AllByRecursion}
use Rattle.std.proofs.Math.Seq.{take-length}
use Rattle.std.proofs.lemmas.Bool.{cases_eq, ne_eqb}
use Rattle.std.proofs.lemmas.List.{take_more}
use Rattle.std.proofs.lemmas.Option.{slice_get-get_or}
use Rattle.litmus_test.specs.declared.test.Action.{Action}
use Rattle.litmus_test.specs.declared.test.Action.TheVariants as actions
use Rattle.litmus_test.specs.declared.test.Thread.{Thread}
use Rattle.litmus_walk.specs.Done.{AreAtEnd, AreDone, GoesOn, HaveDone, asking_steps, actions_at, actions_by}
use Rattle.litmus_walk.specs.Done.{actions_of, steps_of}
use Rattle.litmus_walk.specs.Drawn.{first_place}
use Rattle.litmus_walk.specs.declared.place.Place.{Place}
use Rattle.litmus_walk.specs.declared.place.StepPlace.{StepPlace}
use Rattle.litmus_walk.specs.declared.recorded.Made.{Made}

-- ---- what is at a place of a list

pub some-is : {X : Type 0} (x y : X) → Some x ≡ Some y → x ≡ y
some-is x y same = subst (λ found. IsSomeAnd found (λ z. x ≡ z)) same refl

pub found : {X : Type 0} (xs : List X) (i : ℕ) (x : X) → slice_get xs i ≡ Some x → (i < length xs) × (get_or xs i x ≡ x)
found [] i x is = absurd (subst (λ found. IsSomeAnd found (λ z. z ≡ x)) (sym is) refl)
found (y ∷ xs) zero x is = (omega arith, some-is y x is)
found (y ∷ xs) (suc i) x is = let (there, same) = found xs i x is in (omega (arith, there), same)

pub item-at : {X : Type 0} (xs : List X) (i : ℕ) (x : X) → i < length xs → x ≡ get_or xs i x → slice_get xs i ≡ Some x
item-at xs i x there is = slice_get-get_or xs i x there ∙ ap Some (sym is)

set-here : (xs : List ℕ) (i x y : ℕ) → slice_get xs i ≡ Some x → slice_get (slice_set xs i y) i ≡ Some y
set-here [] i x y is = absurd (subst (λ found. IsSomeAnd found (λ z. z ≡ x)) (sym is) refl)
set-here (z ∷ zs) zero x y is = refl
set-here (z ∷ zs) (suc i) x y is = set-here zs i x y is

set-elsewhere : (xs : List ℕ) (i j y : ℕ) → (i ≡ j → ⊥) → slice_get (slice_set xs i y) j ≡ slice_get xs j
set-elsewhere [] i j y other = refl
set-elsewhere (z ∷ zs) zero zero y other = absurd (other refl)
set-elsewhere (z ∷ zs) zero (suc j) y other = refl
set-elsewhere (z ∷ zs) (suc i) zero y other = refl
set-elsewhere (z ∷ zs) (suc i) (suc j) y other = set-elsewhere zs i j y (λ same. other (ap suc same))

-- the steps at which threads are, when one of them changes
pub steps-set : (places : List Place) (i : ℕ) (place : Place) (step : ℕ) → place.step ≡ step
    → steps_of (slice_set places i place) ≡ slice_set (steps_of places) i step
steps-set [] i place step is = refl
steps-set (first ∷ places) zero place step is = ap (λ s. s ∷ steps_of places) is
steps-set (first ∷ places) (suc i) place step is = ap (λ rest. first.step ∷ rest) (steps-set places i place step is)

-- .. and when it stays as before
pub steps-kept : (places : List Place) (i : ℕ) (old new : Place) → old ≡ get_or places i old → new.step ≡ old.step
    → steps_of (slice_set places i new) ≡ steps_of places
steps-kept [] i old new is same = refl
steps-kept (first ∷ places) zero old new is same =
    ap (λ s. s ∷ steps_of places) (same ∙ ap (λ (place : Place). place.step) is)
steps-kept (first ∷ places) (suc i) old new is same =
    ap (λ rest. first.step ∷ rest) (steps-kept places i old new is same)

-- the step at which a thread is
pub steps-at : (places : List Place) (i : ℕ) (place : Place) → slice_get places i ≡ Some place
    → slice_get (steps_of places) i ≡ Some place.step
steps-at [] i place is = absurd (subst (λ found. IsSomeAnd found (λ z. z ≡ place)) (sym is) refl)
steps-at (first ∷ places) zero place is = ap (λ (p : Place). Some p.step) (some-is first place is)
steps-at (first ∷ places) (suc i) place is = steps-at places i place is

-- ---- one call more, and one step more

actions-push : (number : ℕ) (calls : List Made) (made : Made)
    → actions_by number (calls ++ made ∷ []) ≡ actions_by number calls
    ++ actions_at number made.done made.step made.command
actions-push number [] made = append-nil (actions_at number made.done made.step made.command)
actions-push number (call ∷ calls) made =
    let first : List Action = actions_at number call.done call.step call.command in
    ap (λ rest. first ++ rest) (actions-push number calls made)
    ∙ sym (append_assoc first (actions_by number calls) (actions_at number made.done made.step made.command))

asking-append : (xs ys : List Action) → asking_steps (xs ++ ys) ≡ asking_steps xs ++ asking_steps ys
asking-append [] ys = refl
asking-append (actions.Access word op ∷ xs) ys = ap (λ rest. actions.Access word op ∷ rest) (asking-append xs ys)
asking-append (actions.Settle ∷ xs) ys = asking-append xs ys
asking-append (actions.Evict line ∷ xs) ys = ap (λ rest. actions.Evict line ∷ rest) (asking-append xs ys)

asking-push : (steps : List Action) (i : ℕ) (step : Action) → slice_get steps i ≡ Some step
    → asking_steps (take (i + 1) steps) ≡ asking_steps (take i steps) ++ asking_steps (step ∷ [])
asking-push steps i step is =
    let (there, same) = found steps i step is in
    ap asking_steps (take_more steps i step there ∙ ap (λ s. take i steps ++ s ∷ []) same)
    ∙ asking-append (take i steps) (step ∷ [])

-- ---- what was done

zero-at : (steps : List ℕ) (i step : ℕ) → AllByRecursion (λ s. s ≡ 0) steps → slice_get steps i ≡ Some step → step ≡ 0
zero-at [] i step zeros is = absurd (subst (λ found. IsSomeAnd found (λ z. z ≡ step)) (sym is) refl)
zero-at (first ∷ steps) zero step zeros is = sym (some-is first step is) ∙ zeros.0
zero-at (first ∷ steps) (suc i) step zeros is = zero-at steps i step zeros.1 is

-- Threads that are before their first step.
pub first-zeros : (count : ℕ) → AllByRecursion (λ s. s ≡ 0) (steps_of (replicate count first_place))
first-zeros zero = tt
first-zeros (suc count) = (refl, first-zeros count)

-- Nothing was done yet.
pub done-none : (threads : List Thread) (steps : List ℕ) → AllByRecursion (λ s. s ≡ 0) steps → HaveDone threads steps []
done-none threads steps zeros = λ number thread step is_thread is_step.
    subst (λ s. [] ≡ asking_steps (take s thread.steps.items)) (sym (zero-at steps number step zeros is_step)) refl

-- One more thread is at its end.
pub at-end-more : (threads : List Thread) (steps : List ℕ) (i : ℕ) (d : Thread)
    → ((number : ℕ) (thread : Thread) → number < i → slice_get threads number ≡ Some thread
    → slice_get steps number ≡ Some (length thread.steps.items))
    → slice_get steps i ≡ Some (length (get_or threads i d).steps.items)
    → (number : ℕ) (thread : Thread) → number < i + 1 → slice_get threads number ≡ Some thread
    → slice_get steps number ≡ Some (length thread.steps.items)
at-end-more threads steps i d before one = λ number thread below is. elim (cases_eq i number) [
  | inl same ↦
      let here : slice_get threads i ≡ Some thread = subst (λ n. slice_get threads n ≡ Some thread) (sym same) is in
      let (there, _) = found threads i thread here in
      let its : get_or threads i d ≡ thread = some-is (get_or threads i d) thread
      (sym (slice_get-get_or threads i d there) ∙ here) in
      subst (λ n. slice_get steps n ≡ Some (length thread.steps.items)) same
      (subst (λ (t : Thread). slice_get steps i ≡ Some (length t.steps.items)) its one)
  | inr differ ↦ before number thread (omega (arith, below, differ)) is
]

-- All is done.
pub done-all : (threads : List Thread) (steps : List ℕ) (calls : List Made) → HaveDone threads steps calls
    → AreAtEnd threads steps → AreDone threads calls
done-all threads steps calls have ends = λ number thread is.
    have number thread (length thread.steps.items) is (ends number thread is)
    ∙ ap asking_steps (take-length thread.steps.items)

-- A call that does no step.
pub done-still : (threads : List Thread) (steps : List ℕ) (calls : List Made) (made : Made)
    → ((number : ℕ) → actions_at number made.done made.step made.command ≡ [])
    → GoesOn threads steps calls steps (calls ++ made ∷ [])
done-still threads steps calls made none = λ have number thread step is_thread is_step.
    actions-push number calls made
    ∙ ap (λ rest. actions_by number calls ++ rest) (none number)
    ∙ append-nil (actions_by number calls)
    ∙ have number thread step is_thread is_step

-- A thread goes on after the step at which it is, by calls that do just this.
done-by : (threads : List Thread) (steps : List ℕ) (calls more : List Made) (at : StepPlace)
    (thread : Thread) (action : Action)
    → slice_get threads at.thread ≡ Some thread → slice_get thread.steps.items at.step ≡ Some action
    → slice_get steps at.thread ≡ Some at.step
    → actions_by at.thread more ≡ actions_by at.thread calls ++ asking_steps (action ∷ [])
    → ((number : ℕ) → (at.thread ≡ number → ⊥) → actions_by number more ≡ actions_by number calls)
    → GoesOn threads steps calls (slice_set steps at.thread (at.step + 1)) more
done-by threads steps calls more at thread action is_thread is_step stands own others =
    λ have number other step other_is step_is. elim (cases_eq at.thread number) [
      | inl same ↦
          let next : ℕ = at.step + 1 in
          let stood : slice_get (slice_set steps at.thread next) at.thread ≡ Some step =
          subst (λ n. slice_get (slice_set steps at.thread next) n ≡ Some step) (sym same) step_is in
          let its : slice_get threads at.thread ≡ Some other =
          subst (λ n. slice_get threads n ≡ Some other) (sym same) other_is in
          let step_same : next ≡ step = some-is next step
          (sym (set-here steps at.thread at.step next stands) ∙ stood) in
          let thread_same : thread ≡ other = some-is thread other (sym is_thread ∙ its) in
          let all : actions_by at.thread more ≡ asking_steps (take next thread.steps.items) =
          own
          ∙ ap (λ before. before ++ asking_steps (action ∷ [])) (have at.thread thread at.step is_thread stands)
          ∙ sym (asking-push thread.steps.items at.step action is_step) in
          subst (λ n. actions_by n more ≡ asking_steps (take step other.steps.items)) same
          (subst (λ s. actions_by at.thread more ≡ asking_steps (take s other.steps.items)) step_same
          (subst (λ (t : Thread). actions_by at.thread more ≡ asking_steps (take next t.steps.items)) thread_same all))
      | inr differ ↦
          others number differ
          ∙ have number other step other_is
          (sym (set-elsewhere steps at.thread number (at.step + 1) differ) ∙ step_is)
    ]

-- .. by one call
pub done-made : (threads : List Thread) (steps : List ℕ) (calls : List Made) (made : Made)
    (at : StepPlace) (thread : Thread)
    (action : Action) → made.step ≡ Some at → made.done ≡ true → actions_of made.command ≡ asking_steps (action ∷ [])
    → slice_get threads at.thread ≡ Some thread → slice_get thread.steps.items at.step ≡ Some action
    → slice_get steps at.thread ≡ Some at.step
    → GoesOn threads steps calls (slice_set steps at.thread (at.step + 1)) (calls ++ made ∷ [])
done-made threads steps calls made at thread action noted done acts is_thread is_step stands =
    let own : actions_at at.thread made.done made.step made.command ≡ asking_steps (action ∷ []) =
    rw (done, noted, eq-eqb at.thread at.thread refl) acts in
    let none : (number : ℕ) → (at.thread ≡ number → ⊥) → actions_at number made.done made.step made.command ≡ [] =
    λ number differ. rw (done, noted, ne_eqb at.thread number differ) refl in
    done-by threads steps calls (calls ++ made ∷ []) at thread action is_thread is_step stands
    (actions-push at.thread calls made ∙ ap (λ rest. actions_by at.thread calls ++ rest) own)
    (λ number differ.
    actions-push number calls made
    ∙ ap (λ rest. actions_by number calls ++ rest) (none number differ)
    ∙ append-nil (actions_by number calls))

-- .. by none, if the step settles
pub done-settled : (threads : List Thread) (steps : List ℕ) (calls : List Made) (at : StepPlace) (thread : Thread)
    → slice_get threads at.thread ≡ Some thread → slice_get thread.steps.items at.step ≡ Some actions.Settle
    → slice_get steps at.thread ≡ Some at.step
    → GoesOn threads steps calls (slice_set steps at.thread (at.step + 1)) calls
done-settled threads steps calls at thread is_thread is_step stands =
    done-by threads steps calls calls at thread actions.Settle is_thread is_step stands
    (sym (append-nil (actions_by at.thread calls))) (λ number differ. refl)

-- The access stalled, so its step isn't done.
pub done-stalled : (threads : List Thread) (steps : List ℕ) (calls : List Made) (made : Made) (at : StepPlace)
    → made.step ≡ Some at → made.done ≡ false → GoesOn threads steps calls steps (calls ++ made ∷ [])
done-stalled threads steps calls made at noted undone =
    done-still threads steps calls made (λ number. rw (undone, noted) refl)

-- A delivery and a hand-out are no step's.
pub done-moved : (threads : List Thread) (steps : List ℕ) (calls : List Made) (made : Made) → made.step ≡ None
    → GoesOn threads steps calls steps (calls ++ made ∷ [])
done-moved threads steps calls made noted = done-still threads steps calls made (λ number. rw noted refl)
