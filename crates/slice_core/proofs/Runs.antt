-- Calls made in order go on by one call, as one run of the small machine.
use Rattle.std.proofs.Common.{◌≡◌, ℕ, ◌+◌, ◌<◌, ◌∙◌, List, [], ◌∷◌, ◌++◌, ap, append_assoc, append-nil, arith, get_or}
use Rattle.std.proofs.Common.{length, refl, set, subst, sym, take}
use Rattle.std.proofs.lemmas.List.{take_more, take_more_set}
use Rattle.std.proofs.lemmas.List.Elements.{All-push}
use Rattle.std.specs.Prelude.{All}
use Rattle.slice_core.specs.Run.{AfterCall, AreSteps, AreStepsOfEach, IsOneRun, IsUnbroken, Runs}
use Rattle.slice_core.specs.declared.run.Call.{Call}
use Rattle.slice_core.specs.declared.run.CallAnswer.{CallAnswer}
use Rattle.slice_core_theory.proofs.Kept.{leads-same, same-view}
use Rattle.slice_core_theory.proofs.Runs.{leads-on}
use Rattle.slice_core_theory.specs.SmallMachine.{Step}
use Rattle.slice_core_theory.specs.Shows.{Leads}
use Rattle.slice_core_spec.specs.Calls.{PartsView}

-- No call is an empty run, and one call with its steps is a run.
pub no_run : (old : PartsView) → IsOneRun old [] [] old
no_run old = record { steps = []; each = (refl, refl); leads = leads-same old.view old.view (same-view old.view) }

pub one_run : (old : PartsView) (call : Call) (answer : CallAnswer) (new : PartsView) (steps : List Step)
    → AfterCall old call answer new → AreSteps old.view call answer new.view steps → Leads steps old.view new.view
    → IsOneRun old (call ∷ []) (answer ∷ []) new
one_run old call answer new steps after are leads = record {
  steps = steps;
  each = (new, steps, [], sym (append-nil steps), after, are, leads, (refl, refl));
  leads = leads;
}

-- Runs one after the other are a run.
each-then : (old : PartsView) (calls : List Call) (answers : List CallAnswer) (middle : PartsView)
    (later : List Call) (given : List CallAnswer) (new : PartsView) (steps more : List Step)
    → AreStepsOfEach old calls answers middle steps → AreStepsOfEach middle later given new more
    → AreStepsOfEach old (calls ++ later) (answers ++ given) new (steps ++ more)
each-then old [] [] middle later given new steps more one other =
    subst (λ s. AreStepsOfEach old later given new (s ++ more)) (sym one.1)
    (subst (λ p. AreStepsOfEach p later given new more) one.0 other)
each-then old (call ∷ calls) (answer ∷ answers) middle later given new steps more one other = (
  one.0,
  one.1,
  one.2 ++ more,
  ap (λ s. s ++ more) one.3 ∙ append_assoc one.1 one.2 more,
  one.4,
  one.5,
  one.6,
  each-then one.0 calls answers middle later given new one.2 more one.7 other,
)
each-then old [] (answer ∷ answers) middle later given new steps more one other = absurd one
each-then old (call ∷ calls) [] middle later given new steps more one other = absurd one

run_then : (old : PartsView) (calls : List Call) (answers : List CallAnswer) (middle : PartsView)
    (later : List Call) (given : List CallAnswer) (new : PartsView)
    → IsOneRun old calls answers middle → IsOneRun middle later given new
    → IsOneRun old (calls ++ later) (answers ++ given) new
run_then old calls answers middle later given new one other = record {
  steps = one.steps ++ other.steps;
  each = each-then old calls answers middle later given new one.steps other.steps one.each other.each;
  leads = leads-on old.view middle.view new.view one.steps other.steps one.leads other.leads;
}

-- After the calls before a place the call at that place is made, and its answer is written there.
pub run_more : (old : PartsView) (calls : List Call) (answers : List CallAnswer) (middle : PartsView) (place : ℕ)
    (default : Call) (answer : CallAnswer) (new : PartsView)
    → place < length calls → length answers ≡ length calls
    → IsOneRun old (take place calls) (take place answers) middle
    → IsOneRun middle (get_or calls place default ∷ []) (answer ∷ []) new
    → IsOneRun old (take (place + 1) calls) (take (place + 1) (set answers place answer)) new
run_more old calls answers middle place default answer new within alike run after =
    let inside : place < length answers = omega (arith, within, alike) in
    subst (λ made. IsOneRun old made (take (place + 1) (set answers place answer)) new)
    (sym (take_more calls place default within))
    (subst (λ given. IsOneRun old (take place calls ++ get_or calls place default ∷ []) given new)
    (sym (take_more_set answers place answer inside))
    (run_then old (take place calls) (take place answers) middle (get_or calls place default ∷ []) (answer ∷ []) new
    run after))

-- Where no answer before a place is broken, nor the one that is written there, none up to it is.
pub unbroken_more : (calls : List Call) (answers : List CallAnswer) (place : ℕ) (answer : CallAnswer)
    → place < length calls → length answers ≡ length calls → All IsUnbroken (take place answers)
    → IsUnbroken answer → All IsUnbroken (take (place + 1) (set answers place answer))
unbroken_more calls answers place answer within alike before is =
    let inside : place < length answers = omega (arith, within, alike) in
    subst (All IsUnbroken) (sym (take_more_set answers place answer inside))
    (All-push IsUnbroken (take place answers) answer before is)

-- The calls of a run return and leave what its steps do, one after another.
each-runs : (old : PartsView) (calls : List Call) (answers : List CallAnswer) (new : PartsView) (steps : List Step)
    → AreStepsOfEach old calls answers new steps → Runs old calls answers new
each-runs old [] [] new steps each = each.0
each-runs old (call ∷ calls) (answer ∷ answers) new steps each =
    (each.0, each.4, each-runs each.0 calls answers new each.2 each.7)
each-runs old [] (answer ∷ answers) new steps each = absurd each
each-runs old (call ∷ calls) [] new steps each = absurd each

pub runs : (old : PartsView) (calls : List Call) (answers : List CallAnswer) (new : PartsView)
    → IsOneRun old calls answers new → Runs old calls answers new
runs old calls answers new run = each-runs old calls answers new run.steps run.each
