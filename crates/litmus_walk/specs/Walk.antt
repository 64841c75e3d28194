-- A walk is a list of calls that were made to a new machine, one after another.
use Rattle.std.specs.Prelude.{◌≡◌, ℕ, ◌%◌, Bool, true, List, [], ◌∷◌, ◌++◌, Option, Some, None, IsSomeAnd, slice_get}
use Rattle.address_map.specs.Place.{line_of as line_of_word}
use Rattle.address_map.specs.declared.config.Config.{Config}
use Rattle.litmus_script.specs.Issued.{IsIssued}
use Rattle.litmus_script.specs.Machine.{IsMade, IsNewMachine}
use Rattle.litmus_script.specs.declared.answers.Issued.{Issued}
use Rattle.litmus_test.specs.declared.test.Action.TheVariants as actions
use Rattle.litmus_test.specs.declared.test.LitmusTest.{LitmusTest}
use Rattle.litmus_test.specs.declared.test.Thread.{Thread}
use Rattle.litmus_text.specs.declared.command.Command.{Command}
use Rattle.litmus_text.specs.declared.command.Command.TheVariants as commands
use Rattle.litmus_walk.specs.Done.{is_done}
use Rattle.litmus_walk.specs.declared.place.StepPlace.{StepPlace}
use Rattle.litmus_walk.specs.declared.recorded.Made.{Made}
use Rattle.mshr_file.specs.Miss.{Bound}
use Rattle.slice_core.specs.declared.run.Call.TheVariants as slice_calls
use Rattle.slice_core_spec.specs.Calls.{PartsView}
use Rattle.slice_queues.specs.Pick.{line_of}

-- The command is a call of one slice, which answered it, and the others are unchanged. A walk makes no other commands.
-- For an access it is noted whether it was accepted; an eviction is done whatever the answer.
abbrev pub IsPlayed : Config → Command → Bool → List PartsView → List PartsView → Type 0
IsPlayed config (commands.Issue core request) done old new =
    (issued : Issued) × IsIssued ((line_of_word request.word).0 % config.slices) core request issued old new
    × (done ≡ is_done issued)
IsPlayed config (commands.Evict core line) done old new =
    IsMade (line.0 % config.slices) (slice_calls.Evict core line) old new × (done ≡ true)
IsPlayed config (commands.Deliver pick) done old new =
    IsMade ((line_of pick).0 % config.slices) (slice_calls.Deliver pick) old new
IsPlayed config (commands.Hand core slice) done old new = IsMade slice.0 (slice_calls.Hand core) old new
IsPlayed config command done old new = ⊥

-- the calls, made in this order, lead from the first slices to the second
abbrev pub Plays : Config → List Made → List PartsView → List PartsView → Type 0
Plays config [] old new = new ≡ old
Plays config (made ∷ calls) old new =
    (next : List PartsView) × IsPlayed config made.command made.done old next × Plays config calls next new

-- the thread's step of this number is this command
abbrev pub IsAskedBy : Thread → ℕ → Command → Type 0
IsAskedBy thread step (commands.Issue core request) =
    (core ≡ thread.core) × (slice_get thread.steps.items step ≡ Some (actions.Access request.word request.op))
IsAskedBy thread step (commands.Evict core line) =
    (core ≡ thread.core) × (slice_get thread.steps.items step ≡ Some (actions.Evict line))
IsAskedBy thread step command = ⊥

-- A call that a step makes is the command of this step of its thread; any other delivers a message or a reply.
abbrev pub IsCallOf : List Thread → Command → Option StepPlace → Type 0
IsCallOf threads command (Some at) =
    IsSomeAnd (slice_get threads at.thread) (λ thread. IsAskedBy thread at.step command)
IsCallOf threads (commands.Deliver pick) None = Unit {0}
IsCallOf threads (commands.Hand core slice) None = Unit {0}
IsCallOf threads command None = ⊥

-- each of the calls is such a one
abbrev pub AreCallsOf : List Thread → List Made → Type 0
AreCallsOf threads [] = Unit {0}
AreCallsOf threads (made ∷ calls) = IsCallOf threads made.command made.step × AreCallsOf threads calls

-- a machine, and the calls that were made to it
pub record WalkView : Type 0 where
  pub config : Config
  pub slices : List PartsView
  pub calls : List Made

-- one more call is recorded
abbrev pub made_of : WalkView → Made → WalkView
made_of walk made = record walk { calls = walk.calls ++ made ∷ [] }

-- a new machine, without calls
pub record IsFresh (config : Config) (bound : Bound) (walk : WalkView) : Type 0 where
  pub shape : walk.config ≡ config
  pub fresh : IsNewMachine config bound walk.slices
  pub none : walk.calls ≡ []

-- the walk goes on by some calls of the threads
pub record Walks (threads : List Thread) (old new : WalkView) : Type 0 where
  pub more : List Made
  pub theirs : AreCallsOf threads more
  pub config : new.config ≡ old.config
  pub calls : new.calls ≡ old.calls ++ more
  pub plays : Plays old.config more old.slices new.slices

-- the walk goes on by this call
pub record Makes (old : WalkView) (made : Made) (new : WalkView) : Type 0 where
  pub config : new.config ≡ old.config
  pub calls : new.calls ≡ old.calls ++ made ∷ []
  pub played : IsPlayed old.config made.command made.done old.slices new.slices

-- The calls of the walk, made to a new machine of the test in their order, lead to its slices. They are the commands of
-- the test's steps, deliveries and hand-outs.
pub record IsWalkOf (test : LitmusTest) (bound : Bound) (walk : WalkView) : Type 0 where
  pub start : List PartsView
  pub fresh : IsNewMachine test.config bound start
  pub shape : walk.config ≡ test.config
  pub plays : Plays test.config walk.calls start walk.slices
  pub theirs : AreCallsOf test.threads.items walk.calls
