-- What the text of a trace is.
use Rattle.std.specs.Prelude.{◌≡◌, ◌⊎◌, ℕ, List, [], ◌∷◌, ◌++◌, map, length, ◌<◌, codes}
use Rattle.std.specs.Str.Lines.{lines}
use Rattle.address_map.specs.declared.address.WordAddr.{WordAddr}
use Rattle.address_map.specs.Words.{IsAscendingBy}
use Rattle.slice_log.specs.Log.{initially}
use Rattle.slice_log.specs.declared.entry.Entry.{Entry}
use Rattle.litmus_text.specs.Fault.{IsFirstFault}
use Rattle.litmus_text.specs.Form.{Writes}
use Rattle.litmus_text.specs.Statement.{statements_from}
use Rattle.litmus_text.specs.declared.fault.LineFault.{LineFault}
use Rattle.litmus_text.specs.declared.fault.LineFault.TheVariants as line_faults
use Rattle.litmus_text.specs.declared.fault.TextFault.{TextFault}
use Rattle.litmus_text.specs.declared.fault.TextFault.TheVariants as text_faults
use Rattle.trace_check.specs.declared.trace_line.Version.{Version}
use Rattle.trace_check.specs.declared.trace_line.TraceLine.{TraceLine}
use Rattle.trace_check.specs.declared.trace_line.TraceLine.TheVariants as trace_lines
use Rattle.trace_check.specs.declared.verdict.Verdict.{Verdict}
use Rattle.trace_check.specs.declared.check.Check.{Check}
use Rattle.trace_check.specs.TraceLine.{BeginsWith, IsFaultOfLine, IsLineOf, IsNoFirstLine, parts_of_first}
use Rattle.trace_check.specs.Verdict.{IsVerdict}
use Rattle.trace_check.specs.SoFar.{MayBegin, Stands}

-- each statement, a number and words, is written as the line at its place
unfoldable pub AreLines : Version → List (ℕ × List (List ℕ)) → List TraceLine → Type 0
AreLines version [] [] = Unit {0}
AreLines version [] (line ∷ lines) = ⊥
AreLines version (statement ∷ statements) [] = ⊥
AreLines version (statement ∷ statements) (line ∷ lines) =
    IsLineOf version statement.1 line × AreLines version statements lines

-- the lines of a trace after the first: what words begin with, and then the entries
abbrev pub body_of : List (WordAddr × ℕ) → List Entry → List TraceLine
body_of init entries = map (λ pair. trace_lines.Init pair.0 pair.1) init ++ map trace_lines.Entry entries

-- the statements are such lines, and the words that begin with a value ascend
pub record AreTrace (version : Version) (init : List (WordAddr × ℕ)) (entries : List Entry)
    (statements : List (ℕ × List (List ℕ))) : Type 0 where
  pub written : AreLines version statements (body_of init entries)
  pub ascending : IsAscendingBy (λ pair. pair.0.0) init

-- the text is a trace with these initial values and entries: its first line, and the others
pub record IsTrace (version : Version) (init : List (WordAddr × ℕ)) (entries : List Entry)
    (text : List ℕ) : Type 0 where
  pub number : ℕ
  pub first : List (List ℕ)
  pub rest : List (ℕ × List (List ℕ))
  pub statements : statements_from 0 (lines text) ≡ (number, first) ∷ rest
  pub begins : Writes first (parts_of_first version)
  pub goes_on : AreTrace version init entries rest

-- a trace whose entries have this verdict
pub record IsJudged (text : List ℕ) (verdict : Verdict) : Type 0 where
  pub version : Version
  pub init : List (WordAddr × ℕ)
  pub entries : List Entry
  pub trace : IsTrace version init entries text
  pub is : IsVerdict (initially init) entries verdict

-- the text is no trace, with any initial values and entries
abbrev pub IsNoTrace : List ℕ → Type 0
IsNoTrace text =
    (version : Version) (init : List (WordAddr × ℕ)) (entries : List Entry) → ¬ IsTrace version init entries text

-- the statements are a trace of this version after its first line, with some initial values and entries
abbrev pub AreSomeTrace : Version → List (ℕ × List (List ℕ)) → Type 0
AreSomeTrace version statements =
    (init : List (WordAddr × ℕ)) × ((entries : List Entry) × AreTrace version init entries statements)

-- they are none
abbrev pub AreNoTrace : Version → List (ℕ × List (List ℕ)) → Type 0
AreNoTrace version statements = ¬ AreSomeTrace version statements

-- why reading a text stopped: memory ran out, or a line is invalid, and then it is refused for this
abbrev pub IsNoMemoryOrLine : Type 0 → TextFault → Type 0
IsNoMemoryOrLine refused text_faults.NoMemory = Unit {0}
IsNoMemoryOrLine refused (text_faults.Line number fault) = refused
IsNoMemoryOrLine refused (text_faults.Config error) = ⊥
IsNoMemoryOrLine refused text_faults.CannotWrite = ⊥

-- The invalid line of a text, by its statements: line 1 if there are none, the first of them if it begins no trace, and
-- else the first invalid one after it.
abbrev pub IsFaultAt : List (ℕ × List (List ℕ)) → ℕ → Type 0
IsFaultAt [] number = number ≡ 1
IsFaultAt (first ∷ rest) number =
    ((number ≡ first.0) × IsNoFirstLine first.1)
    ⊎ ((version : Version) × Writes first.1 (parts_of_first version) × IsFirstFault (AreSomeTrace version) rest number)

-- a line that may come next
unfoldable pub MayFollow : Check → TraceLine → Type 0
MayFollow check (trace_lines.Init word value) = MayBegin check.trace word
MayFollow check (trace_lines.Entry entry) = Unit {0}

-- the words write no line that may come next
abbrev pub IsNoNextLine : Check → List (List ℕ) → Type 0
IsNoNextLine check words = (line : TraceLine) → IsLineOf check.version words line → ¬ MayFollow check line

-- what was read of the statements, and what is left of them
pub record IsReading (check : Check) (all left : List (ℕ × List (List ℕ))) : Type 0 where
  pub init : List (WordAddr × ℕ)
  pub entries : List Entry
  pub done : List (ℕ × List (List ℕ))
  pub split : done ++ left ≡ all
  pub written : AreLines check.version done (body_of init entries)
  pub stands : Stands check.trace init entries

-- statements of a trace whose entries have this verdict
pub record AreJudged (version : Version) (statements : List (ℕ × List (List ℕ))) (verdict : Verdict) : Type 0 where
  pub init : List (WordAddr × ℕ)
  pub entries : List Entry
  pub trace : AreTrace version init entries statements
  pub is : IsVerdict (initially init) entries verdict

-- ---- what is wrong with the invalid line

-- the words begin as an initial value, after some entries
abbrev pub IsLate : Type 0 → List (List ℕ) → Type 0
IsLate are_entries words = are_entries × BeginsWith (codes "init") words

-- What is wrong with words that can't come next. After an entry an initial value is no line there, however it is
-- written; nor is one for a word that may not be named next. Else it is what is wrong with them as a line.
abbrev pub IsFaultNext : Type 0 → (WordAddr → Type 0) → Version → List (List ℕ) → LineFault → Type 0
IsFaultNext are_entries MayBegin version words fault =
    (IsLate are_entries words × (fault ≡ line_faults.NotACommand))
    ⊎ ((¬ IsLate are_entries words) × IsFaultOfLine version words fault)
    ⊎ ((word : WordAddr) × (value : ℕ) × IsLineOf version words (trace_lines.Init word value) × (¬ MayBegin word)
    × (fault ≡ line_faults.NotACommand))

-- a word that may be given a value after these initial values and entries: after no entry, and above those named
pub record IsNextWord (init : List (WordAddr × ℕ)) (entries : List Entry) (word : WordAddr) : Type 0 where
  pub early : entries ≡ []
  pub above : (before : List (WordAddr × ℕ)) (last : WordAddr) (value : ℕ) → init ≡ before ++ (last, value) ∷ []
      → last.0 < word.0

-- this is wrong with a statement of this number, and those before it are lines of a trace
pub record IsFaultAmong (version : Version) (statements : List (ℕ × List (List ℕ))) (number : ℕ)
    (fault : LineFault) : Type 0 where
  pub before : List (ℕ × List (List ℕ))
  pub words : List (List ℕ)
  pub behind : List (ℕ × List (List ℕ))
  pub stands : statements ≡ before ++ (number, words) ∷ behind
  pub init : List (WordAddr × ℕ)
  pub entries : List Entry
  pub written : AreLines version before (body_of init entries)
  pub is : IsFaultNext (0 < length entries) (IsNextWord init entries) version words fault

-- What is wrong with the invalid line of a text, by its statements: it is no trace if it is empty or begins as none,
-- and else this is wrong with the first line that can't come next.
abbrev pub IsFaultOfTrace : List (ℕ × List (List ℕ)) → ℕ → LineFault → Type 0
IsFaultOfTrace [] number fault = fault ≡ line_faults.NotATrace
IsFaultOfTrace (first ∷ rest) number fault =
    (IsNoFirstLine first.1 × (fault ≡ line_faults.NotATrace))
    ⊎ ((version : Version) × Writes first.1 (parts_of_first version) × IsFaultAmong version rest number fault)

-- the property holds of the line and of what is wrong with it, if a fault is of a line
abbrev pub IsOfLine : (ℕ → LineFault → Type 0) → TextFault → Type 0
IsOfLine holds (text_faults.Line number fault) = holds number fault
IsOfLine holds other = Unit {0}
