-- A step of a machine: a command, what was decided of it, and what it came to. And what is done and written where
-- commands are played as steps.
use Rattle.std.specs.Prelude.{◌≡◌, ℕ, ◌/◌, ◌%◌, Bool, true, false, List, [], Option, Some, None}
use Rattle.address_map.specs.Place.{line_of as line_of_word}
use Rattle.address_map.specs.declared.config.Config.{Config}
use Rattle.litmus_script.specs.Issued.{Issues}
use Rattle.litmus_script.specs.Machine.{Answers, HasAt, OneSlice, ShowsWord}
use Rattle.litmus_script.specs.Prints.{IsPrinted}
use Rattle.litmus_script.specs.Pump.{Pumps, Telling}
use Rattle.litmus_script.specs.Script.{Playing}
use Rattle.litmus_script.specs.declared.answers.Pumped.{Pumped}
use Rattle.litmus_text.specs.declared.command.Command.{Command}
use Rattle.litmus_text.specs.declared.command.Command.TheVariants as commands
use Rattle.litmus_text.specs.declared.look.Look.TheVariants as looks
use Rattle.script_explained.specs.Delivery.{delivery_of}
use Rattle.script_explained.specs.Issue.{eviction_of, issue_at}
use Rattle.script_explained.specs.Unrest.{first_unrest}
use Rattle.script_explained.specs.declared.step.Step.{Step}
use Rattle.script_explained.specs.declared.step.Step.TheVariants as steps
use Rattle.script_explained.specs.declared.step.AccessStep.{AccessStep}
use Rattle.script_explained.specs.declared.step.DeliveryStep.{DeliveryStep}
use Rattle.script_explained.specs.declared.step.EvictionStep.{EvictionStep}
use Rattle.script_explained.specs.declared.step.WordStep.{WordStep}
use Rattle.slice_answer.specs.declared.answer.Delivered.TheVariants as delivered_kinds
use Rattle.slice_answer.specs.declared.answer.Delivery.{Delivery}
use Rattle.slice_answer.specs.declared.answer.Delivery.TheVariants as deliveries
use Rattle.slice_core.specs.declared.run.Call.TheVariants as slice_calls
use Rattle.slice_core.specs.declared.run.CallAnswer.TheVariants as call_answers
use Rattle.slice_core_spec.specs.Calls.{PartsView}
use Rattle.slice_core_spec.specs.View.{View}
use Rattle.slice_queues.specs.Pick.{line_of}
use Rattle.slice_queues.specs.declared.channel.Class.TheVariants as classes
use Rattle.slice_queues.specs.declared.channel.Pick.{Pick}

-- ---- a step

-- the command that it is a step of
abbrev pub command_of : Step → Command
command_of (steps.Issue access) = commands.Issue access.core access.decided.request
command_of (steps.Evict eviction) = commands.Evict eviction.core eviction.line
command_of (steps.Deliver delivery) = commands.Deliver delivery.pick
command_of (steps.Hand hand) = commands.Hand hand.core hand.slice
command_of (steps.Word word) = commands.Look (looks.Word word.word)
command_of (steps.Pump calls pumped) = commands.Pump calls
command_of (steps.Show command text) = command

-- the slice with this number answered the access, and decided it like this before
pub record IsAccess (slice : ℕ) (access : AccessStep) (old new : PartsView) : Type 0 where
  pub answered : Issues access.core access.decided.request access.issued old new
  pub decided : access.decided ≡ issue_at slice old.view access.core access.decided.request

-- .. the eviction
pub record IsEviction (slice : ℕ) (step : EvictionStep) (old new : PartsView) : Type 0 where
  pub answered : Answers (slice_calls.Evict step.core step.line) (call_answers.Evict step.eviction.answer) old new
  pub told : step.eviction ≡ eviction_of slice step.core step.line step.eviction.answer old.view new.view

-- .. the delivery, which met this case and did this
pub record IsDelivery (slice : ℕ) (step : DeliveryStep) (old new : PartsView) : Type 0 where
  pub answered : Answers (slice_calls.Deliver step.pick) (call_answers.Deliver step.delivered) old new
  pub told : step.told ≡ delivery_of slice step.pick old.view new.view

-- the slice shows this of its word, or this keeps it from being quiet
pub record IsWord (step : WordStep) (v : View) : Type 0 where
  pub shows : ShowsWord v step.word step.shown
  pub unrest : step.unrest ≡ first_unrest v

-- the command only shows something of the machine, as it is printed; a word has a step of its own
abbrev pub is_look : Command → Bool
is_look (commands.Look (looks.Word word)) = false
is_look (commands.Look look) = true
is_look command = false

-- it printed this; a pump, whose deliveries are steps of their own, prints and does nothing as one step; no other command
-- is made as a step that shows
abbrev pub IsShown : Bool → Config → Command → List PartsView → List PartsView → List ℕ → Type 0
IsShown true config command old new text = IsPrinted config command old new (Some []) (Some text)
IsShown false config (commands.Pump calls) old new text = (new ≡ old) × (text ≡ [])
IsShown false config command old new text = ⊥

-- The slices of a machine made the step: one of them answered the command's call, or something was shown. What a pump
-- left is said after its deliveries, which are steps of their own.
abbrev pub IsStep : Config → Step → List PartsView → List PartsView → Type 0
IsStep config (steps.Issue access) old new =
    let slice = (line_of_word access.decided.request.word).0 % config.slices in
    OneSlice slice (IsAccess slice access) old new
IsStep config (steps.Evict eviction) old new =
    let slice = eviction.line.0 % config.slices in OneSlice slice (IsEviction slice eviction) old new
IsStep config (steps.Deliver delivery) old new =
    let slice = (line_of delivery.pick).0 % config.slices in OneSlice slice (IsDelivery slice delivery) old new
IsStep config (steps.Hand hand) old new =
    OneSlice hand.slice.0 (Answers (slice_calls.Hand hand.core) (call_answers.Hand hand.handed)) old new
IsStep config (steps.Word word) old new =
    (new ≡ old) × HasAt old (word.word.0 / 8 % config.slices) (λ state. IsWord word state.view)
IsStep config (steps.Pump calls pumped) old new = new ≡ old
IsStep config (steps.Show command text) old new = IsShown (is_look command) config command old new text.items

-- the command was played, and this is its step
pub record MakesStep (config : Config) (command : Command) (old new : List PartsView) (step : Step) : Type 0 where
  pub of_command : command_of step ≡ command
  pub made : IsStep config step old new

-- ---- a delivery that a pump makes

-- a message that was delivered at the channel
abbrev pub moved_at : ℕ → Pick → View → View → DeliveryStep
moved_at slice pick old new =
    record { pick = pick; delivered = delivered_kinds.Moved; told = delivery_of slice pick old new }

-- the step of a slice's next delivery, by its answer: none where none was made
abbrev pub next_step : ℕ → Delivery Pick → View → View → Option DeliveryStep
next_step slice (deliveries.Moved pick) old new = Some (moved_at slice pick old new)
next_step slice answer old new = None

-- the slice with this number made its next delivery, where one could be made
pub record MakesNext (slice : ℕ) (answer : Delivery Pick) (made : Option DeliveryStep) (old new : PartsView)
    : Type 0 where
  pub answered : Answers (slice_calls.DeliverNext classes.Any) (call_answers.DeliverNext answer) old new
  pub step : made ≡ next_step slice answer old.view new.view

-- ---- steps that are written

-- what is written of the step of a command on a line of this text, where the slices are these after it
abbrev pub Writing : Type 1
Writing = Config → List PartsView → List ℕ → Step → Option (List ℕ) → Option (List ℕ) → Type 0

-- what is written of a delivery that a pump made, where the slices are these after it
abbrev pub WritingNext : Type 1
WritingNext = Config → List PartsView → DeliveryStep → Option (List ℕ) → Option (List ℕ) → Type 0

-- nothing is written where none was made
abbrev pub WritesMade : WritingNext → Config → List PartsView → Option DeliveryStep → Option (List ℕ)
    → Option (List ℕ) → Type 0
WritesMade writes config slices None before after = after ≡ before
WritesMade writes config slices (Some delivery) before after = writes config slices delivery before after

-- a slice made its next delivery, where one could be made, and it was written
pub record IsNextStep (writes : WritingNext) (config : Config) (old : List PartsView) (slice : ℕ)
    (answer : Delivery Pick) (before after : Option (List ℕ)) (new : List PartsView) : Type 0 where
  pub made : Option DeliveryStep
  pub goes : OneSlice slice (MakesNext slice answer made) old new
  pub written : WritesMade writes config new made before after

-- as a telling of a pump's deliveries
abbrev pub NextSteps : WritingNext → Config → Telling
NextSteps writes config old slice answer before after new = IsNextStep writes config old slice answer before after new

-- the command is played as one step, which is written
pub record IsStepped (writes : Writing) (config : Config) (old : List PartsView) (line : List ℕ) (command : Command)
    (before after : Option (List ℕ)) (new : List PartsView) : Type 0 where
  pub step : Step
  pub makes : MakesStep config command old new step
  pub written : writes config new line step before after

-- a pump's deliveries are steps that are written, and after them what is left
pub record ArePumped (writes : Writing) (writes_next : WritingNext) (config : Config) (old : List PartsView)
    (line : List ℕ) (calls : ℕ) (before after : Option (List ℕ)) (new : List PartsView) : Type 0 where
  pub pumped : Pumped
  pub middle : Option (List ℕ)
  pub pumps : Pumps (NextSteps writes_next config) config.slices calls pumped old new before middle
  pub said : writes config new line (steps.Pump calls pumped) middle after

abbrev pub Steps : Writing → WritingNext → Playing
Steps writes writes_next config old line (commands.Pump calls) before after new =
    ArePumped writes writes_next config old line calls before after new
Steps writes writes_next config old line command before after new =
    IsStepped writes config old line command before after new

-- The command is played in steps, which are written. As a record it isn't unfolded where it is passed on.
pub record AreSteps (writes : Writing) (writes_next : WritingNext) (config : Config) (old : List PartsView)
    (line : List ℕ) (command : Command) (before after : Option (List ℕ)) (new : List PartsView) : Type 0 where
  pub steps : Steps writes writes_next config old line command before after new

-- .. as a style of playing
abbrev pub PlaysSteps : Writing → WritingNext → Playing
PlaysSteps writes writes_next config old line command before after new =
    AreSteps writes writes_next config old line command before after new
