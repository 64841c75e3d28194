-- What is written of a step where answers are explained.
use Rattle.std.specs.Prelude.{◌/◌, ◌%◌, ◌++◌, codes}
use Rattle.std.specs.Io.KnownBytes.{Appends}
use Rattle.address_map.specs.Place.{line_of as line_of_word}
use Rattle.litmus_script.specs.Answer.{text_of_handed, text_of_pumped, text_of_word}
use Rattle.litmus_script.specs.Machine.{HasAt}
use Rattle.litmus_script.specs.Prints.{Adds}
use Rattle.litmus_script.specs.Script.{Playing}
use Rattle.script_explained.specs.Delivery.{text_of_made, told_of_delivery}
use Rattle.script_explained.specs.Hand.{told_of_hand}
use Rattle.script_explained.specs.Issue.{TellsAccess, TellsEviction}
use Rattle.script_explained.specs.Step.{PlaysSteps, Writing, WritingNext}
use Rattle.script_explained.specs.Unrest.{told_of_word}
use Rattle.script_explained.specs.declared.step.Step.TheVariants as steps
use Rattle.slice_answer.specs.Text.{text_of_delivered}

-- the answer with what is said of it; what a command shows is printed as ever
abbrev pub Explains : Writing
Explains config slices line (steps.Issue access) before after =
    HasAt slices ((line_of_word access.decided.request.word).0 % config.slices)
    (λ state. TellsAccess access state.view before after)
Explains config slices line (steps.Evict eviction) before after =
    HasAt slices (eviction.line.0 % config.slices) (λ state. TellsEviction eviction state.view before after)
Explains config slices line (steps.Deliver delivery) before after =
    Adds before after (text_of_delivered delivery.delivered ++ codes "   " ++ told_of_delivery delivery.told)
Explains config slices line (steps.Hand hand) before after =
    Adds before after (text_of_handed hand.handed ++ codes "   " ++ told_of_hand hand.core hand.handed)
Explains config slices line (steps.Word word) before after =
    Adds before after (text_of_word word.shown ++ told_of_word word.shown word.unrest)
Explains config slices line (steps.Pump calls pumped) before after = Adds before after (text_of_pumped pumped)
Explains config slices line (steps.Show command text) before after = Appends before after text.items

-- of each delivery of a pump, the command that makes it is written, and what happened
abbrev pub ExplainsNext : WritingNext
ExplainsNext config slices delivery before after = Appends before after (text_of_made delivery.pick delivery.told)

-- answers are printed with what is said of them
abbrev pub Explainingly : Playing
Explainingly = PlaysSteps Explains ExplainsNext
