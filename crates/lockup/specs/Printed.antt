-- What a subcommand prints in the form that is asked for.
use Rattle.std.specs.Prelude.{ℕ, Bool, true, false, List, [], Option, ⊤, if◌then◌else◌}
use Rattle.std.specs.Str.Lines.{lines}
use Rattle.std.specs.Io.KnownBytes.{Appends}
use Rattle.history_text.specs.declared.extent.Extent.{Extent}
use Rattle.history_text.specs.declared.extent.Extent.TheVariants as extents
use Rattle.litmus.specs.Table.{text_of_table, values_of}
use Rattle.litmus_command_line.specs.declared.args.TableArgs.{TableArgs}
use Rattle.litmus_command_line.specs.declared.form.ScriptForm.{ScriptForm}
use Rattle.litmus_command_line.specs.declared.form.ScriptForm.TheVariants as script_forms
use Rattle.litmus_script.specs.Script.{Echoed, IsRun, IsRunUpTo}
use Rattle.litmus_text.specs.Statement.{statements_from}
use Rattle.litmus_text.specs.declared.fault.TextFault.{TextFault}
use Rattle.murphi_trace.specs.Script.{IsTraceFault, script_of}
use Rattle.script_coverage.specs.Coverage.{IsNotCovered}
use Rattle.script_explained.specs.Beside.{IsBeside, Told}
use Rattle.script_json.specs.Values.{Listed}
use Rattle.script_waves.specs.Waves.{IsWaves, IsWavesFault}
use Rattle.text_verdicts.specs.Check.{IsChecked, IsCheckedAsJson, IsExplained, text_of_verdict}

-- the run of a script is printed in this form; what its coverage says isn't specified here
abbrev pub PrintsScript : ScriptForm → List ℕ → Option (List ℕ) → Option (List ℕ) → Type 0
PrintsScript (script_forms.Answers echo explain) text before after =
    IsRun (Echoed echo (Told explain)) (statements_from 0 (lines text)) before after
PrintsScript (script_forms.Beside explain) text before after =
    IsRun (IsBeside (Told explain)) (statements_from 0 (lines text)) before after
PrintsScript script_forms.Waves text before after = IsWaves (statements_from 0 (lines text)) before after
PrintsScript script_forms.Json text before after = IsRun Listed (statements_from 0 (lines text)) before after
PrintsScript script_forms.Coverage text before after = ⊤
PrintsScript script_forms.FromMurphi text before after = Appends before after (script_of text)

-- .. or not whole, with this fault: of answers, and of a trace as a script, what was printed before it is said, too
abbrev pub PrintsScriptUpTo : ScriptForm → List ℕ → Option (List ℕ) → Option (List ℕ) → TextFault → Type 0
PrintsScriptUpTo (script_forms.Answers echo explain) text before after fault =
    IsRunUpTo (Echoed echo (Told explain)) (statements_from 0 (lines text)) before after fault
PrintsScriptUpTo (script_forms.Beside explain) text before after fault =
    IsRunUpTo (IsBeside (Told explain)) (statements_from 0 (lines text)) before after fault
PrintsScriptUpTo script_forms.Waves text before after fault = IsWavesFault (statements_from 0 (lines text)) fault
PrintsScriptUpTo script_forms.Json text before after fault =
    IsRunUpTo Listed (statements_from 0 (lines text)) before after fault
PrintsScriptUpTo script_forms.Coverage text before after fault = IsNotCovered (statements_from 0 (lines text)) fault
PrintsScriptUpTo script_forms.FromMurphi text before after fault = IsTraceFault text before after fault

-- a trace's verdict is printed with this status: as JSON, or else explained or not
abbrev pub PrintsVerdict : (json explain : Bool) → List ℕ → Option (List ℕ) → Option (List ℕ) → ℕ → Type 0
PrintsVerdict true explain text before after status = IsCheckedAsJson text before after status
PrintsVerdict false true text before after status = IsExplained text before after status
PrintsVerdict false false text before after status = IsChecked text (text_of_verdict []) before after status

-- what is printed of a table
abbrev pub text_of : TableArgs → List ℕ
text_of args = if args.json then values_of args.table args.exclusive else text_of_table args.table args.exclusive

-- which words are judged together
abbrev pub extent_of : (line : Bool) → Extent
extent_of line = if line then extents.Line else extents.Word
