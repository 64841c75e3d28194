-- How a check of a trace ends.
use Rattle.std.specs.Prelude.{◌≡◌, ℕ, ◌++◌, ◌⊎◌, List, [], Option, None, Some, codes, decimal}
use Rattle.std.specs.Io.KnownBytes.{Appends}
use Rattle.std.specs.Str.Lines.{lines}
use Rattle.litmus_script.specs.Play.{IsOfRun}
use Rattle.litmus_text.specs.Fault.{IsAtLine}
use Rattle.litmus_text.specs.Statement.{statements_from}
use Rattle.litmus_text.specs.declared.fault.TextFault.{TextFault}
use Rattle.text_verdicts.specs.declared.wrong_entry.Cause.{Cause}
use Rattle.text_verdicts.specs.declared.wrong_entry.Cause.TheVariants as causes
use Rattle.text_verdicts.specs.declared.wrong_entry.Source.{Source}
use Rattle.text_verdicts.specs.declared.wrong_entry.Source.TheVariants as sources
use Rattle.text_verdicts.specs.declared.wrong_entry.WrongEntry.{WrongEntry}
use Rattle.trace_check.specs.Trace.{IsFaultAt, IsFaultOfTrace, IsJudged, IsNoTrace, IsOfLine}
use Rattle.trace_check.specs.declared.verdict.Reason.{Reason}
use Rattle.trace_check.specs.declared.verdict.Reason.TheVariants as reasons
use Rattle.trace_check.specs.declared.verdict.Verdict.{Verdict}
use Rattle.trace_check.specs.declared.verdict.Verdict.TheVariants as verdicts

-- the exit status: 0 if the trace is legal, and 1 if it isn't
abbrev pub status_of : Verdict → ℕ
status_of (verdicts.Legal entries) = 0
status_of (verdicts.Illegal entry reason) = 1

abbrev pub text_of_reason : Reason → List ℕ
text_of_reason reasons.Reply = codes "reply"
text_of_reason reasons.Order = codes "order"
text_of_reason reasons.Since = codes "since"

-- the line with the verdict, and after an invalid entry more about it
abbrev pub text_of_verdict : List ℕ → Verdict → List ℕ
text_of_verdict more (verdicts.Legal entries) = codes "legal " ++ (decimal entries ++ codes " entries\n")
text_of_verdict more (verdicts.Illegal entry reason) =
    codes "illegal entry "
    ++ (decimal entry ++ (codes ": " ++ (text_of_reason reason ++ (more ++ codes "\n"))))

-- the entry that wrote a word, if one did
abbrev pub text_of_writer : Source → List ℕ
text_of_writer (sources.Entry entry) = decimal entry.number
text_of_writer source = codes "null"

-- what was expected of an invalid entry, as members of an object
abbrev pub members_of_cause : Cause → List ℕ
members_of_cause causes.Store = codes ",\"expected\":\"0\""
members_of_cause (causes.Value expected source) =
    codes ",\"expected\":\"" ++ (decimal expected ++ (codes "\",\"written_by\":" ++ text_of_writer source))
members_of_cause (causes.Order seq last last_seq) = codes ",\"earlier_entry\":" ++ decimal last.number
members_of_cause (causes.Since since number) = []

-- .. with its line
abbrev pub members_of : Option WrongEntry → List ℕ
members_of None = []
members_of (Some wrong) = codes ",\"line\":" ++ (decimal wrong.line ++ members_of_cause wrong.cause)

-- the JSON value with the verdict, and what was expected of an invalid entry
abbrev pub json_of_verdict : Option WrongEntry → Verdict → List ℕ
json_of_verdict wrong (verdicts.Legal entries) =
    codes "{\"legal\":true,\"entries\":" ++ (decimal entries ++ codes "}\n")
json_of_verdict wrong (verdicts.Illegal entry reason) =
    codes "{\"legal\":false,\"entry\":"
    ++ (decimal entry
    ++ (codes ",\"reason\":\"" ++ (text_of_reason reason ++ (codes "\"" ++ (members_of wrong ++ codes "}\n")))))

-- the text is a trace, its verdict is printed, and the status is that of the verdict
pub record IsChecked (text : List ℕ) (told : Verdict → List ℕ) (before after : Option (List ℕ))
    (status : ℕ) : Type 0 where
  pub verdict : Verdict
  pub judged : IsJudged text verdict
  pub printed : Appends before after (told verdict)
  pub is : status ≡ status_of verdict

-- .. with more about an invalid entry, which isn't specified here
abbrev pub IsExplained : List ℕ → Option (List ℕ) → Option (List ℕ) → ℕ → Type 0
IsExplained text before after status =
    (more : List ℕ) × IsChecked text (text_of_verdict more) before after status

-- .. as JSON, whose members have these names; which line, value and entry they name isn't specified here
abbrev pub IsCheckedAsJson : List ℕ → Option (List ℕ) → Option (List ℕ) → ℕ → Type 0
IsCheckedAsJson text before after status =
    (wrong : Option WrongEntry) × IsChecked text (json_of_verdict wrong) before after status

-- Why a trace wasn't judged: memory ran out, its verdict couldn't be written, or the text is no trace. Then the fault
-- names the first invalid line and says what is wrong with it.
abbrev pub IsNotChecked : List ℕ → TextFault → Type 0
IsNotChecked text fault =
    IsOfRun fault
    ⊎ (IsNoTrace text × IsAtLine (IsFaultAt (statements_from 0 (lines text))) fault
    × IsOfLine (IsFaultOfTrace (statements_from 0 (lines text))) fault)
