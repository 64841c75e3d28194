-- The script of a run.
use Rattle.std.specs.Prelude.{◌≡◌, ℕ, zero, suc, ◌+◌, ◌%◌, ◌==◌, max, Bool, true, false, List, [], ◌∷◌, ◌++◌, Option}
use Rattle.std.specs.Prelude.{codes, is_some, option_and_then, option_map}
use Rattle.std.specs.List.{count_by, filter_map, flat_map, list_any}
use Rattle.std.specs.Str.Lines.{lines}
use Rattle.address_map.specs.declared.address.CoreId.{CoreId}
use Rattle.address_map.specs.declared.request.Op.{Op}
use Rattle.address_map.specs.declared.request.Op.TheVariants as ops
use Rattle.litmus_text.specs.Command.{parts_of}
use Rattle.litmus_text.specs.declared.command.Command.{Command}
use Rattle.litmus_text.specs.declared.command.Command.TheVariants as commands
use Rattle.litmus_text.specs.declared.config_line.ConfigLine.{ConfigLine}
use Rattle.litmus_text.specs.declared.config_line.ConfigLine.TheVariants as config_lines
use Rattle.litmus_text.specs.declared.field.Count.TheVariants as counts
use Rattle.litmus_text.specs.declared.fault.LineFault.TheVariants as line_faults
use Rattle.litmus_text.specs.declared.fault.TextFault.{TextFault}
use Rattle.litmus_text.specs.declared.fault.TextFault.TheVariants as text_faults
use Rattle.litmus_text.specs.Line.{line_of_parts}
use Rattle.litmus_text.specs.SettingsLines.{text_of_lines}
use Rattle.murphi_trace.specs.declared.rule.Rule.{Rule}
use Rattle.murphi_trace.specs.declared.rule.Rule.TheVariants as rules
use Rattle.murphi_trace.specs.Fired.{fired_by, fired_in, parts_around}
use Rattle.murphi_trace.specs.Rule.{last_core, rule_of, the_line}

-- ---- the steps of a run

-- a step: what a line reports of a rule by which something happens, and the rule
abbrev pub Step : Type 0
Step = (List ℕ × List ℕ) × Rule

abbrev pub rule_in : Step → Rule
rule_in step = step.1

abbrev pub with_rule : List ℕ × List ℕ → Option Step
with_rule fired = option_map (λ rule. (fired, rule)) (rule_of fired)

abbrev pub step_by : List ℕ → Option Step
step_by line = option_and_then with_rule (fired_by line)

-- the steps that lines report, in order
abbrev pub steps_in : List (List ℕ) → List Step
steps_in lines = filter_map step_by lines

-- ---- the machine

-- the greatest number of a core that takes part, or 0
abbrev pub greatest_core : List Step → ℕ
greatest_core [] = 0
greatest_core (step ∷ more) = max (last_core step.1) (greatest_core more)

-- whether the exclusive state's message occurs
abbrev pub names_data_e : List ℕ × List ℕ → Bool
names_data_e fired = is_some (parts_around (codes "Data-E") fired.0)

abbrev pub exclusive_line : Bool → List ConfigLine
exclusive_line true = config_lines.Exclusive true ∷ []
exclusive_line false = []

-- `cores` cores, and the exclusive state where it is needed
abbrev pub machine_lines : ℕ → Bool → List ConfigLine
machine_lines cores exclusive = config_lines.Count counts.Cores cores ∷ exclusive_line exclusive

-- ---- the commands of a step

-- whether a rule is an access of this core, and how many of some rules are
abbrev pub is_access_of : ℕ → Rule → Bool
is_access_of number (rules.Load core) = core.0 == number
is_access_of number (rules.Write core) = core.0 == number
is_access_of number (rules.Evict core) = false
is_access_of number (rules.Deliver pick) = false

abbrev pub accesses_of : ℕ → List Rule → ℕ
accesses_of number before = count_by (is_access_of number) before

-- the hand-out of a reply, in front of each access of a core but its first, so that tags don't run out
abbrev pub hand_before : ℕ → CoreId → List Command
hand_before zero core = []
hand_before (suc earlier) core = commands.Hand core (record { 0 = 0 }) ∷ []

-- an access of a core that made `accesses` before: its tags are used in turn, and there are 64
abbrev pub access_of : ℕ → CoreId → Op → List Command
access_of accesses core op =
    hand_before accesses core
    ++ commands.Issue core (record { op = op; word = record { 0 = 0 }; tag = accesses % 64 }) ∷ []

-- the commands that do what a rule does, after those rules
abbrev pub commands_of : List Rule → Rule → List Command
commands_of before (rules.Load core) = access_of (accesses_of core.0 before) core ops.Load
commands_of before (rules.Write core) = access_of (accesses_of core.0 before) core (ops.Add 1)
commands_of before (rules.Evict core) = commands.Evict core the_line ∷ []
commands_of before (rules.Deliver pick) = commands.Deliver pick ∷ []

-- ---- the text

abbrev pub text_of_commands : List Command → List ℕ
text_of_commands all = flat_map (λ command. line_of_parts (parts_of command)) all

-- a rule's name and its cores, as a comment
abbrev pub comment_of : List ℕ × List ℕ → List ℕ
comment_of fired = codes "# " ++ (fired.0 ++ (fired.1 ++ codes "\n"))

abbrev pub text_of_step : List Rule → Step → List ℕ
text_of_step before step = comment_of step.0 ++ text_of_commands (commands_of before step.1)

-- the steps in order, after those rules
abbrev pub text_of_steps : List Rule → List Step → List ℕ
text_of_steps before [] = []
text_of_steps before (step ∷ more) = text_of_step before step ++ text_of_steps (before ++ step.1 ∷ []) more

-- the script of the run that a trace reports
abbrev pub script_of : List ℕ → List ℕ
script_of trace =
    text_of_lines (machine_lines (greatest_core (steps_in (lines trace)) + 1)
    (list_any names_data_e (fired_in (lines trace))))
    ++ text_of_steps [] (steps_in (lines trace))

-- some line of the text reports a rule that fired
abbrev pub is_trace : List ℕ → Bool
is_trace text = list_any (λ line. is_some (fired_by line)) (lines text)

-- why a text isn't written as a script: it is no trace, and nothing is written; or the output can't be written
abbrev pub IsTraceFault : List ℕ → Option (List ℕ) → Option (List ℕ) → TextFault → Type 0
IsTraceFault text before after (text_faults.Line number fault) =
    (is_trace text ≡ false) × (number ≡ 1) × (fault ≡ line_faults.NotATrace) × (after ≡ before)
IsTraceFault text before after (text_faults.Config error) = ⊥
IsTraceFault text before after text_faults.NoMemory = ⊥
IsTraceFault text before after text_faults.CannotWrite = is_trace text ≡ true
