-- A step of a page: a command with its answer, and as data what it can have changed of the machine, as that is then.
use Rattle.std.specs.Prelude.{ℕ, List, ◌++◌, codes, decimal, length, Option, Some, None}
use Rattle.std.specs.Io.KnownBytes.{Appends}
use Rattle.std.specs.List.{slice_get}
use Rattle.address_map.specs.declared.config.Config.{Config}
use Rattle.litmus_script.specs.declared.answers.Issued.{Issued}
use Rattle.litmus_script.specs.declared.answers.Issued.TheVariants as issued_kinds
use Rattle.litmus_text.specs.declared.command.Command.{Command}
use Rattle.script_explained.specs.Step.{command_of}
use Rattle.script_explained.specs.declared.step.Step.{Step}
use Rattle.script_explained.specs.declared.step.Step.TheVariants as steps
use Rattle.slice_json.specs.Access.{text_of_log}
use Rattle.script_page.specs.Call as calls
use Rattle.script_page.specs.Core.{text_of_core_in, victim_of}
use Rattle.slice_json.specs.Json.{json_of}
use Rattle.slice_json.specs.Line.{text_of_line_in}
use Rattle.script_page.specs.Scope.{scope_of}
use Rattle.script_page.specs.declared.call.Planned.{Planned}
use Rattle.script_page.specs.declared.scope.Scope.{Scope}
use Rattle.slice_answer.specs.declared.answer.Delivery.{Delivery}
use Rattle.slice_answer.specs.declared.answer.Delivery.TheVariants as deliveries
use Rattle.slice_core_spec.specs.Calls.{PartsView, next_pick}
use Rattle.slice_core_spec.specs.declared.transition.Transition.{Transition}
use Rattle.slice_queues.specs.declared.channel.Class.TheVariants as classes
use Rattle.slice_queues.specs.declared.channel.Pick.{Pick}
use Rattle.slice_text.specs.declared.step.delivery.ExplainedDelivery.{ExplainedDelivery}

-- ---- what a step says

-- the number of the first access that a step performed, where the log has `length` entries after it: `length` if it
-- performed none
abbrev pub first_of_issued : Issued → ℕ → ℕ
first_of_issued (issued_kinds.Done number reply) length = number
first_of_issued issued length = length

abbrev pub first_of_told : Option ExplainedDelivery → ℕ → ℕ
first_of_told None length = length
first_of_told (Some told) length = told.done.first

abbrev pub first_of : Step → ℕ → ℕ
first_of (steps.Issue access) length = first_of_issued access.issued length
first_of (steps.Deliver delivery) length = first_of_told delivery.told length
first_of step length = length

-- what was planned for the message that a step delivers
abbrev pub plan_of : Option ExplainedDelivery → Delivery Transition
plan_of None = deliveries.Nothing
plan_of (Some told) = told.plan

abbrev pub planned_of : Step → Option Planned
planned_of (steps.Deliver delivery) = Some (record { pick = delivery.pick; plan = plan_of delivery.told })
planned_of step = None

-- ---- the text of a step

abbrev pub text_of_begin : ℕ → List ℕ
text_of_begin number = codes "{\"at\":" ++ decimal number ++ codes ",\"command\":"

abbrev pub text_of_call : Command → Option Planned → List ℕ
text_of_call command None = codes ",\"call\":" ++ calls.text_of_call command ++ codes ",\"plan\":null,"
text_of_call command (Some planned) =
    codes ",\"call\":" ++ calls.text_of_call command ++ codes ",\"plan\":"
    ++ calls.text_of_plan planned.pick planned.plan ++ codes ","

abbrev pub no_changes : List ℕ
no_changes = codes "\"line\":null,\"victim\":null,\"performed\":null,\"next\":null,\"core\":"

abbrev pub text_of_next : Delivery Pick → List ℕ
text_of_next next = codes ",\"next\":" ++ calls.text_of_next next ++ codes ",\"core\":"

-- the command's line and one that can have been evicted for it, the accesses that were performed, and the
-- delivery that the slice would choose next
abbrev pub text_of_lines : Scope → Step → PartsView → List ℕ
text_of_lines scope step p =
    codes "\"line\":" ++ (text_of_line_in p.view scope.line
    ++ (codes ",\"victim\":" ++ (text_of_line_in p.view (victim_of p.view scope)
    ++ (codes ",\"performed\":" ++ (text_of_log scope.slice (first_of step (length p.view.log)) p.view.log
    ++ text_of_next (next_pick p classes.Any))))))

abbrev pub lines_in : Scope → Step → Option PartsView → List ℕ
lines_in scope step None = no_changes
lines_in scope step (Some state) = text_of_lines scope step state

abbrev pub text_of_changes : Option Scope → Step → List PartsView → List ℕ
text_of_changes None step slices = no_changes
text_of_changes (Some scope) step slices = lines_in scope step (slice_get slices scope.slice)

-- all of a step but what the core has
abbrev pub text_of_front : ℕ → List ℕ → List ℕ → Step → Option Scope → List PartsView → List ℕ
text_of_front number line answer step scope slices =
    text_of_begin number ++ (json_of line ++ (codes ",\"answer\":" ++ (json_of answer
    ++ (text_of_call (command_of step) (planned_of step) ++ text_of_changes scope step slices))))

abbrev pub core_in : Scope → Option PartsView → List ℕ
core_in scope None = codes "null"
core_in scope (Some state) = text_of_core_in state.view scope

-- what the core has
abbrev pub text_of_core_by : Option Scope → List PartsView → List ℕ
text_of_core_by None slices = codes "null"
text_of_core_by (Some scope) slices = core_in scope (slice_get slices scope.slice)

-- A step is written: the command at this place of the script with its answer and what was planned, and what it can have
-- changed, as the slices have it.
pub record WritesStep (config : Config) (number : ℕ) (line answer : List ℕ) (step : Step) (slices : List PartsView)
    (before after : Option (List ℕ)) : Type 0 where
  pub first : Option (List ℕ)
  pub begun : Appends before first
      (text_of_front number line answer step (scope_of config (command_of step)) slices)
  pub last : Option (List ℕ)
  pub core : Appends first last (text_of_core_by (scope_of config (command_of step)) slices)
  pub ended : Appends last after (codes "},\n")
