-- What a command does to a machine, and what it prints.
use Rattle.std.specs.Prelude.{◌≡◌, ℕ, ◌/◌, ◌%◌, List, ◌++◌, codes, Option}
use Rattle.std.specs.Io.KnownBytes.{Appends}
use Rattle.address_map.specs.Place.{line_of as line_of_word}
use Rattle.address_map.specs.declared.config.Config.{Config}
use Rattle.litmus_script.specs.Answer.{text_of_handed, text_of_issued, text_of_pumped, text_of_word}
use Rattle.litmus_script.specs.Issued.{IsIssued}
use Rattle.litmus_script.specs.Machine.{IsAnswered, IsShownLine, IsShownWord, counts_in, init_at, log_at}
use Rattle.litmus_script.specs.Pump.{Pumps, Silently, Telling}
use Rattle.litmus_script.specs.Shown.{text_of_trace}
use Rattle.litmus_script.specs.Waiting.{text_of_waiting}
use Rattle.litmus_script.specs.declared.answers.Issued.{Issued}
use Rattle.litmus_script.specs.declared.answers.Pumped.{Pumped}
use Rattle.litmus_text.specs.declared.command.Command.{Command}
use Rattle.litmus_text.specs.declared.command.Command.TheVariants as commands
use Rattle.litmus_text.specs.declared.look.Look.{Look}
use Rattle.litmus_text.specs.declared.look.Look.TheVariants as looks
use Rattle.litmus_text.specs.declared.look.MachineLook.{MachineLook}
use Rattle.litmus_text.specs.declared.look.MachineLook.TheVariants as machine_looks
use Rattle.slice_answer.specs.Text.{text_of_delivered, text_of_evicted}
use Rattle.slice_answer.specs.declared.answer.Delivered.{Delivered}
use Rattle.slice_answer.specs.declared.answer.Evicted.{Evicted}
use Rattle.slice_core.specs.declared.run.Call.TheVariants as slice_calls
use Rattle.slice_core.specs.declared.run.CallAnswer.TheVariants as call_answers
use Rattle.slice_core_spec.specs.Calls.{PartsView}
use Rattle.slice_core_exec.specs.declared.line_view.LineView.{LineView}
use Rattle.slice_log.specs.declared.entry.Numbered.{Numbered}
use Rattle.slice_queues.specs.Pick.{line_of}
use Rattle.slice_text.specs.Line.{text_of_line}
use Rattle.slice_text.specs.Shown.{text_of_machine}
use Rattle.stats_report.specs.Report.{report_of}

-- what is written grows by this text and the end of its line
abbrev pub Adds : Option (List ℕ) → Option (List ℕ) → List ℕ → Type 0
Adds before after text = Appends before after (text ++ codes "\n")

-- a pump's deliveries are reported as `tells` says, and then what remains is written
pub record PrintsPump (tells : Telling) (slices calls : ℕ) (old new : List PartsView)
    (before after : Option (List ℕ)) : Type 0 where
  pub pumped : Pumped
  pub middle : Option (List ℕ)
  pub pumps : Pumps tells slices calls pumped old new before middle
  pub said : Adds middle after (text_of_pumped pumped)

-- what is shown of all slices
abbrev pub text_of_machine_look : Config → MachineLook → List PartsView → List ℕ
text_of_machine_look config machine_looks.Stats slices = report_of (counts_in slices)
text_of_machine_look config machine_looks.Waiting slices = text_of_waiting slices
text_of_machine_look config machine_looks.Show slices = text_of_machine config slices

-- what is shown of a machine is appended to what was written before
abbrev pub Shows : Config → Look → List PartsView → Option (List ℕ) → Option (List ℕ) → Type 0
Shows config (looks.Word word) slices before after =
    (shown : Option ℕ) × IsShownWord slices (word.0 / 8 % config.slices) word shown
    × Adds before after (text_of_word shown)
Shows config (looks.State line) slices before after =
    (shown : LineView) × IsShownLine slices (line.0 % config.slices) line shown
    × Appends before after (text_of_line line shown)
Shows config (looks.Log slice) slices before after =
    Appends before after (text_of_trace config.cores (init_at slices slice.0) (log_at slices slice.0))
Shows config (looks.Machine look) slices before after =
    Appends before after (text_of_machine_look config look slices)

-- The command's call of its slice, and the text appended for the slice's answer. A command that only shows something
-- leaves the machine unchanged.
abbrev pub Prints : Config → Command → List PartsView → List PartsView → Option (List ℕ) → Option (List ℕ) → Type 0
Prints config (commands.Issue core request) old new before after =
    (issued : Issued) × IsIssued ((line_of_word request.word).0 % config.slices) core request issued old new
    × Adds before after (text_of_issued issued)
Prints config (commands.Evict core line) old new before after =
    (answer : Evicted)
    × IsAnswered (line.0 % config.slices) (slice_calls.Evict core line) (call_answers.Evict answer) old new
    × Adds before after (text_of_evicted answer)
Prints config (commands.Deliver pick) old new before after =
    (answer : Delivered) × IsAnswered ((line_of pick).0 % config.slices) (slice_calls.Deliver pick)
    (call_answers.Deliver answer) old new
    × Adds before after (text_of_delivered answer)
Prints config (commands.Hand core slice) old new before after =
    (answer : Option Numbered) × IsAnswered slice.0 (slice_calls.Hand core) (call_answers.Hand answer) old new
    × Adds before after (text_of_handed answer)
Prints config (commands.Look look) old new before after = (new ≡ old) × Shows config look old before after
Prints config (commands.Pump calls) old new before after = PrintsPump Silently config.slices calls old new before after

-- The command's answer is printed. As a record it isn't unfolded where it is passed on.
pub record IsPrinted (config : Config) (command : Command) (old new : List PartsView)
    (before after : Option (List ℕ)) : Type 0 where
  pub printed : Prints config command old new before after
