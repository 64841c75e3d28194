-- What a page has of each step that is made.
use Rattle.std.specs.Prelude.{ℕ, List, [], Option, Some}
use Rattle.address_map.specs.declared.config.Config.{Config}
use Rattle.litmus_script.specs.Script.{Playing}
use Rattle.litmus_text.specs.Command.{parts_of}
use Rattle.litmus_text.specs.declared.command.Command.TheVariants as commands
use Rattle.script_explained.specs.Explains.{Explains, ExplainsNext}
use Rattle.script_explained.specs.Step.{PlaysSteps, Writing, WritingNext}
use Rattle.script_explained.specs.declared.step.DeliveryStep.{DeliveryStep}
use Rattle.script_explained.specs.declared.step.Step.{Step}
use Rattle.script_explained.specs.declared.step.Step.TheVariants as steps
use Rattle.script_page.specs.Step.{WritesStep}
use Rattle.litmus_text.specs.Line.{text_of_parts}
use Rattle.slice_core_spec.specs.Calls.{PartsView}

-- The step of a command is written: its answer with what happened, and the slices as they are then. Its place in
-- the script isn't said here.
pub record PagesStep (config : Config) (slices : List PartsView) (line : List ℕ) (step : Step)
    (before after : Option (List ℕ)) : Type 0 where
  pub number : ℕ
  pub answer : List ℕ
  pub told : Explains config slices line step (Some []) (Some answer)
  pub written : WritesStep config number line answer step slices before after

-- a delivery of a pump is a step of its own, as if the command that makes it were there
pub record PagesNext (config : Config) (slices : List PartsView) (delivery : DeliveryStep)
    (before after : Option (List ℕ)) : Type 0 where
  pub number : ℕ
  pub answer : List ℕ
  pub told : ExplainsNext config slices delivery (Some []) (Some answer)
  pub written : WritesStep config number (text_of_parts (parts_of (commands.Deliver delivery.pick))) answer
      (steps.Deliver delivery) slices before after

-- as what a writer of steps writes
abbrev pub PageWriting : Writing
PageWriting config slices line step before after = PagesStep config slices line step before after

abbrev pub PageWritingNext : WritingNext
PageWritingNext config slices delivery before after = PagesNext config slices delivery before after

-- the steps of a command, and of the deliveries that a pump makes
abbrev pub Steps : Playing
Steps = PlaysSteps PageWriting PageWritingNext
