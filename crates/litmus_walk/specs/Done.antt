-- The steps that the threads of a walk have done.
use Rattle.std.specs.Prelude.{◌≡◌, ℕ, ◌==◌, ◌&&◌, Bool, true, false, if◌then◌else◌, List, [], ◌∷◌, ◌++◌, Option, Some}
use Rattle.std.specs.Prelude.{None, length, map, slice_get, take}
use Rattle.litmus_script.specs.declared.answers.Issued.{Issued}
use Rattle.litmus_script.specs.declared.answers.Issued.TheVariants as issued_kinds
use Rattle.litmus_test.specs.declared.test.Action.{Action}
use Rattle.litmus_test.specs.declared.test.Action.TheVariants as actions
use Rattle.litmus_test.specs.declared.test.Thread.{Thread}
use Rattle.litmus_text.specs.declared.command.Command.{Command}
use Rattle.litmus_text.specs.declared.command.Command.TheVariants as commands
use Rattle.litmus_walk.specs.declared.place.Place.{Place}
use Rattle.litmus_walk.specs.declared.place.StepPlace.{StepPlace}
use Rattle.litmus_walk.specs.declared.recorded.Made.{Made}

-- an access that is performed or waits for messages is done; one that stalls is retried
abbrev pub is_done : Issued → Bool
is_done (issued_kinds.Done number reply) = true
is_done (issued_kinds.Pending seq) = true
is_done issued = false

-- the steps that make a request: one that settles makes none
abbrev pub asking_steps : List Action → List Action
asking_steps [] = []
asking_steps (actions.Settle ∷ steps) = asking_steps steps
asking_steps (step ∷ steps) = step ∷ asking_steps steps

-- the step that a command does
abbrev pub actions_of : Command → List Action
actions_of (commands.Issue core request) = actions.Access request.word request.op ∷ []
actions_of (commands.Evict core line) = actions.Evict line ∷ []
actions_of command = []

-- .. if it is one of this thread, and is done
abbrev pub actions_at : ℕ → Bool → Option StepPlace → Command → List Action
actions_at thread done None command = []
actions_at thread done (Some at) command = if done && at.thread == thread then actions_of command else []

-- the steps that the thread of this number has done by these calls, in order
abbrev pub actions_by : ℕ → List Made → List Action
actions_by thread [] = []
actions_by thread (made ∷ calls) = actions_at thread made.done made.step made.command ++ actions_by thread calls

-- the step at which each thread is
abbrev pub steps_of : List Place → List ℕ
steps_of places = map (λ place. place.step) places

-- Each thread has done the steps before the one at which it is, in order and each once.
abbrev pub HaveDone : List Thread → List ℕ → List Made → Type 0
HaveDone threads steps calls =
    (number : ℕ) (thread : Thread) (step : ℕ) → slice_get threads number ≡ Some thread
    → slice_get steps number ≡ Some step
    → actions_by number calls ≡ asking_steps (take step thread.steps.items)

-- Each thread has done all its steps that make a request, in order and each once.
abbrev pub AreDone : List Thread → List Made → Type 0
AreDone threads calls =
    (number : ℕ) (thread : Thread) → slice_get threads number ≡ Some thread
    → actions_by number calls ≡ asking_steps thread.steps.items

-- if they had done so, they still have
abbrev pub GoesOn : List Thread → List ℕ → List Made → List ℕ → List Made → Type 0
GoesOn threads steps calls new_steps new_calls = HaveDone threads steps calls → HaveDone threads new_steps new_calls

-- each thread is past its last step
abbrev pub AreAtEnd : List Thread → List ℕ → Type 0
AreAtEnd threads steps =
    (number : ℕ) (thread : Thread) → slice_get threads number ≡ Some thread
    → slice_get steps number ≡ Some (length thread.steps.items)
