-- What is written of a step where each command is a value of JSON: the items of its answer.
use Rattle.std.specs.Prelude.{ℕ, ◌%◌, true, false, List, [], ◌++◌, codes, Option, Some, None}
use Rattle.std.specs.Io.KnownBytes.{Appends}
use Rattle.std.specs.Str.Lines.{lines}
use Rattle.address_map.specs.Place.{line_of as line_of_word}
use Rattle.address_map.specs.declared.config.Config.{Config}
use Rattle.litmus_text.specs.JsonList.{with_commas}
use Rattle.litmus_script.specs.Machine.{HasAt}
use Rattle.litmus_script.specs.Script.{Playing}
use Rattle.litmus_text.specs.declared.command.Command.{Command}
use Rattle.litmus_text.specs.declared.command.Command.TheVariants as commands
use Rattle.litmus_text.specs.declared.look.Look.TheVariants as looks
use Rattle.litmus_text.specs.declared.look.MachineLook.TheVariants as machine_looks
use Rattle.script_explained.specs.Delivery.{told_of_delivery}
use Rattle.script_explained.specs.Hand.{told_of_hand}
use Rattle.script_explained.specs.Issue.{named_by_answer, named_of}
use Rattle.script_explained.specs.Named.{text_of_copies, AreNamed}
use Rattle.script_explained.specs.Step.{PlaysSteps, Writing, WritingNext}
use Rattle.script_explained.specs.Unrest.{text_of_unrest}
use Rattle.script_explained.specs.declared.step.AccessStep.{AccessStep}
use Rattle.script_explained.specs.declared.step.EvictionStep.{EvictionStep}
use Rattle.script_explained.specs.declared.step.Step.TheVariants as steps
use Rattle.script_explained.specs.declared.unrest.Unrest.{Unrest}
use Rattle.script_json.specs.Answer.{members_of_delivered, members_of_evicted, members_of_handed, members_of_issued}
use Rattle.script_json.specs.Answer.{members_of_made, members_of_pumped, members_of_word}
use Rattle.script_json.specs.Held.{lines_from}
use Rattle.script_json.specs.Slices.{texts_of_slices}
use Rattle.script_json.specs.Value.{item_of, items_of_lines, object_of}
use Rattle.script_json.specs.declared.held.Choice.TheVariants as choices
use Rattle.slice_core_spec.specs.Calls.{PartsView}
use Rattle.slice_core_spec.specs.View.{View}
use Rattle.slice_text.specs.Issue.{text_of_eviction, text_of_issue}

-- ---- a step

-- an access with what was decided, and the copies in its way or its victim, each as it is then
pub record ValueOfAccess (access : AccessStep) (v : View) (before after : Option (List ℕ)) : Type 0 where
  pub numbers : List ℕ
  pub are_named : AreNamed (named_of access.decided) v access.core numbers
  pub written : Appends before after (item_of (members_of_issued access.issued)
      (Some (text_of_issue access.decided ++ text_of_copies (named_of access.decided) v access.core numbers)))

-- an eviction likewise
pub record ValueOfEviction (step : EvictionStep) (v : View) (before after : Option (List ℕ)) : Type 0 where
  pub numbers : List ℕ
  pub are_named : AreNamed (named_by_answer step.eviction.answer) v step.core numbers
  pub written : Appends before after (item_of (members_of_evicted step.eviction.answer)
      (Some (text_of_eviction step.eviction
      ++ text_of_copies (named_by_answer step.eviction.answer) v step.core numbers)))

-- what keeps a slice from being quiet is reported where a word isn't shown for it
abbrev pub unrest_of : Option ℕ → Option Unrest → Option (List ℕ)
unrest_of None (Some unrest) = Some (text_of_unrest unrest)
unrest_of shown unrest = None

-- the lines where messages wait
abbrev pub items_waiting : Config → List PartsView → List ℕ
items_waiting config slices = lines_from true choices.Waiting config slices

-- each slice, and then the lines that aren't at rest
abbrev pub items_moving : Config → List PartsView → List ℕ
items_moving config slices =
    with_commas (texts_of_slices config.cores config.lines 0 slices)
    ++ lines_from false choices.Moving config slices

-- of what only shows something: these, or the words that are printed
abbrev pub items_shown : Config → List PartsView → Command → List ℕ → List ℕ
items_shown config slices (commands.Look (looks.Machine machine_looks.Waiting)) text = items_waiting config slices
items_shown config slices (commands.Look (looks.Machine machine_looks.Show)) text = items_moving config slices
items_shown config slices command text = items_of_lines (lines text)

abbrev pub Values : Writing
Values config slices line (steps.Issue access) before after =
    HasAt slices ((line_of_word access.decided.request.word).0 % config.slices)
    (λ state. ValueOfAccess access state.view before after)
Values config slices line (steps.Evict eviction) before after =
    HasAt slices (eviction.line.0 % config.slices) (λ state. ValueOfEviction eviction state.view before after)
Values config slices line (steps.Deliver delivery) before after =
    Appends before after (item_of (members_of_delivered delivery.delivered) (Some (told_of_delivery delivery.told)))
Values config slices line (steps.Hand hand) before after =
    Appends before after (item_of (members_of_handed hand.handed) (Some (told_of_hand hand.core hand.handed)))
Values config slices line (steps.Word word) before after =
    Appends before after (item_of (members_of_word word.shown) (unrest_of word.shown word.unrest))
Values config slices line (steps.Pump calls pumped) before after =
    Appends before after (item_of (members_of_pumped pumped) None)
Values config slices line (steps.Show command text) before after =
    Appends before after (items_shown config slices command text.items)

-- a delivery of a pump, followed by another or by what is left
abbrev pub ValuesNext : WritingNext
ValuesNext config slices delivery before after =
    Appends before after (item_of (members_of_made delivery.pick) (Some (told_of_delivery delivery.told)) ++ codes ",")

-- ---- a run

-- The command is played, and written as a value: with a number, its line, itself as data, and the items that its steps
-- write.
abbrev pub Listed : Playing
Listed config old line command before after new =
    (items : List ℕ) × (number : ℕ) × PlaysSteps Values ValuesNext config old line command (Some []) (Some items) new
    × Appends before after (object_of number line command items)
