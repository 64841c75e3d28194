-- What a list of calls returns and leaves, and which run of the small machine it is.
use Rattle.std.specs.Prelude.{◌≡◌, ℕ, ◌<◌, List, [], ◌∷◌, ◌++◌, map, All}
use Rattle.slice_core.specs.Facts.{IsNotBroken, IsNotBrokenNext}
use Rattle.slice_core.specs.declared.run.Call.{Call}
use Rattle.slice_core.specs.declared.run.Call.TheVariants as slice_calls
use Rattle.slice_core.specs.declared.run.CallAnswer.{CallAnswer}
use Rattle.slice_core.specs.declared.run.CallAnswer.TheVariants as call_answers
use Rattle.slice_core_theory.specs.SmallMachine.{Step, perform}
use Rattle.slice_core_theory.specs.Shows.{Leads, Performs, hand_steps, issue_steps, next_of}
use Rattle.slice_core_spec.specs.Calls.{PartsView, AfterDeliverNext, AfterDelivery, AfterEvict, AfterHand, AfterIssue}
use Rattle.slice_core_spec.specs.View.{View}

-- the core that the call names, where it names one, is one of `cores`
abbrev pub HasCore : ℕ → Call → Type 0
HasCore cores (slice_calls.Issue core request) = core.0 < cores
HasCore cores (slice_calls.Evict core line) = core.0 < cores
HasCore cores (slice_calls.Hand core) = core.0 < cores
HasCore cores (slice_calls.Deliver pick) = Unit {0}
HasCore cores (slice_calls.DeliverNext class) = Unit {0}

-- each call's core is one of `cores`
abbrev pub HasCores : ℕ → List Call → Type 0
HasCores cores calls = All (HasCore cores) calls

-- What one call returns and leaves. The answer is of the call's own kind.
abbrev pub AfterCall : PartsView → Call → CallAnswer → PartsView → Type 0
AfterCall old (slice_calls.Issue core request) (call_answers.Issue answer) new = AfterIssue old core request answer new
AfterCall old (slice_calls.Evict core line) (call_answers.Evict answer) new = AfterEvict old core line answer new
AfterCall old (slice_calls.Deliver pick) (call_answers.Deliver answer) new = AfterDelivery old pick answer new
AfterCall old (slice_calls.DeliverNext class) (call_answers.DeliverNext answer) new =
    AfterDeliverNext old class answer new
AfterCall old (slice_calls.Hand core) (call_answers.Hand answer) new = AfterHand old core answer new
AfterCall old call answer new = ⊥

-- What calls made in order return and leave: each call begins where the one before it left the slice, and its answer
-- is at its place.
abbrev pub Runs : PartsView → List Call → List CallAnswer → PartsView → Type 0
Runs old [] [] new = new ≡ old
Runs old (call ∷ calls) (answer ∷ answers) new =
    (next : PartsView) × AfterCall old call answer next × Runs next calls answers new
Runs old calls answers new = ⊥

-- the answer isn't that a message is broken: neither of a delivery nor of a next delivery
abbrev pub IsUnbroken : CallAnswer → Type 0
IsUnbroken (call_answers.Deliver answer) = IsNotBroken answer
IsUnbroken (call_answers.DeliverNext answer) = IsNotBrokenNext answer
IsUnbroken (call_answers.Issue answer) = Unit {0}
IsUnbroken (call_answers.Evict answer) = Unit {0}
IsUnbroken (call_answers.Hand answer) = Unit {0}

-- ---- a run of the small machine

-- The steps of a call, as its answer says: a request that is done at once is accepted, performed and handed out; one
-- that is pending is accepted; a delivery performs as many requests as the log grows by; a hand-out hands out; and all
-- else is no step.
abbrev pub AreSteps : View → Call → CallAnswer → View → List Step → Type 0
AreSteps old (slice_calls.Issue core request) (call_answers.Issue answer) new steps =
    steps ≡ issue_steps (next_of old core request) answer
AreSteps old (slice_calls.Evict core line) (call_answers.Evict answer) new steps = steps ≡ []
AreSteps old (slice_calls.Deliver pick) (call_answers.Deliver answer) new steps =
    (done : Performs old new) × (steps ≡ map perform done.requests)
AreSteps old (slice_calls.DeliverNext class) (call_answers.DeliverNext answer) new steps =
    (done : Performs old new) × (steps ≡ map perform done.requests)
AreSteps old (slice_calls.Hand core) (call_answers.Hand answer) new steps = steps ≡ hand_steps answer
AreSteps old call answer new steps = ⊥

-- The steps of calls made in order, one call's after another's: those of each call lead from what the slice showed
-- before it to what it shows after it.
abbrev pub AreStepsOfEach : PartsView → List Call → List CallAnswer → PartsView → List Step → Type 0
AreStepsOfEach old [] [] new steps = (new ≡ old) × (steps ≡ [])
AreStepsOfEach old (call ∷ calls) (answer ∷ answers) new steps =
    (next : PartsView) × (first : List Step) × (rest : List Step) × (steps ≡ first ++ rest)
    × AfterCall old call answer next × AreSteps old.view call answer next.view first × Leads first old.view next.view
    × AreStepsOfEach next calls answers new rest
AreStepsOfEach old calls answers new steps = ⊥

-- Calls made in order are one run of the small machine.
pub record IsOneRun (old : PartsView) (calls : List Call) (answers : List CallAnswer) (new : PartsView) : Type 0 where
  pub steps : List Step
  pub each : AreStepsOfEach old calls answers new steps
  pub leads : Leads steps old.view new.view
