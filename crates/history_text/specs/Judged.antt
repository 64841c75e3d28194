-- The verdict on the histories of a text's words.
use Rattle.std.specs.Prelude.{◌≡◌, ◌≢◌, ◌⊎◌, ℕ, List, [], ◌∷◌, ◌++◌, map, Option, None, Some, slice_get, Vec}
use Rattle.std.specs.Str.Lines.{lines}
use Rattle.std.specs.declared.alloc.Global.{Global}
use Rattle.address_map.specs.declared.address.WordAddr.{WordAddr}
use Rattle.litmus_text.specs.Form.{Writes}
use Rattle.litmus_text.specs.Statement.{statements_from}
use Rattle.litmus_text.specs.declared.fault.LineFault.{LineFault}
use Rattle.litmus_text.specs.declared.fault.TextFault.{TextFault}
use Rattle.litmus_text.specs.declared.fault.TextFault.TheVariants as text_faults
use Rattle.slice_log.specs.Log.{initially}
use Rattle.slice_log.specs.declared.entry.Entry.{Entry}
use Rattle.trace_check.specs.Trace.{AreLines, IsFaultAt, IsFaultOfTrace, IsNoTrace, IsTrace}
use Rattle.trace_check.specs.TraceLine.{parts_of_first}
use Rattle.trace_check.specs.declared.trace_line.Version.{Version}
use Rattle.trace_check.specs.declared.trace_line.TraceLine.{TraceLine}
use Rattle.history_judge.specs.Order.{IsOrderOf, HasNoOrder}
use Rattle.history_judge.specs.declared.access.Access.{Access}
use Rattle.history_text.specs.Histories.{AreTold, accesses_in, given_in, inits_in, line_of}
use Rattle.history_text.specs.declared.extent.Extent.{Extent}
use Rattle.history_text.specs.HistoryLine.{IsLineOf, parts_of_history}
use Rattle.history_text.specs.declared.histories.Histories.{Histories}
use Rattle.history_text.specs.declared.history_line.HistoryLine.{HistoryLine}
use Rattle.history_text.specs.declared.history_line.HistoryLine.TheVariants as history_lines
use Rattle.history_text.specs.declared.verdict.Verdict.{Verdict}
use Rattle.history_text.specs.declared.verdict.Verdict.TheVariants as verdicts

-- the order of a word or a line: those past the last have no accesses
abbrev pub order_of : Option (Vec ℕ Global) → List ℕ
order_of None = []
order_of (Some order) = order.items

-- an order of the accesses of each word or line, from the values that words are given; or one whose accesses have none
abbrev pub IsVerdictOn : (ℕ → List (WordAddr × ℕ)) → (ℕ → List Access) → Verdict → Type 0
IsVerdictOn inits accesses (verdicts.Coherent orders) =
    (r : ℕ) → IsOrderOf (initially (inits r)) (accesses r) (order_of (slice_get orders.items r))
IsVerdictOn inits accesses (verdicts.Incoherent r reason) = HasNoOrder (initially (inits r)) (accesses r)
IsVerdictOn inits accesses (verdicts.Undecided r) = Unit {0}

-- ---- a text that is a trace

abbrev pub IsSomeTrace : List ℕ → Type 0
IsSomeTrace text =
    (version : Version) × ((init : List (WordAddr × ℕ)) × ((entries : List Entry) × IsTrace version init entries text))

-- these are the lines that the text writes, after the first, which names how
pub record AreLinesOf (text : List ℕ) (behind : List TraceLine) : Type 0 where
  pub version : Version
  pub number : ℕ
  pub first : List (List ℕ)
  pub rest : List (ℕ × List (List ℕ))
  pub statements : statements_from 0 (lines text) ≡ (number, first) ∷ rest
  pub begins : Writes first (parts_of_first version)
  pub written : AreLines version rest behind

-- the text is a trace whose entries are these accesses
pub record IsTraceThatTells (text : List ℕ) (told : List HistoryLine) : Type 0 where
  pub trace : IsSomeTrace text
  pub behind : List TraceLine
  pub written : AreLinesOf text behind
  pub is : told ≡ map line_of behind

-- the statements write lines of a trace with these histories
pub record AreLinesToldBy (version : Version) (statements : List (ℕ × List (List ℕ))) (histories : Histories)
    : Type 0 where
  pub behind : List TraceLine
  pub written : AreLines version statements behind
  pub are : AreTold histories (map line_of behind)

-- ---- a text that is a history

-- each statement is written as the line at its place
unfoldable pub AreWritten : List (ℕ × List (List ℕ)) → List HistoryLine → Type 0
AreWritten [] [] = Unit {0}
AreWritten [] (line ∷ told) = ⊥
AreWritten (statement ∷ statements) [] = ⊥
AreWritten (statement ∷ statements) (line ∷ told) = IsLineOf statement.1 line × AreWritten statements told

-- the line gives no word a value that was given one
unfoldable pub IsFresh : List HistoryLine → HistoryLine → Type 0
IsFresh before (history_lines.Init word value) = given_in word.0 before ≡ None
IsFresh before (history_lines.Access access) = Unit {0}

-- no word is given a value twice, after these lines
unfoldable pub AreFresh : List HistoryLine → List HistoryLine → Type 0
AreFresh before [] = Unit {0}
AreFresh before (line ∷ told) = IsFresh before line × AreFresh (before ++ line ∷ []) told

-- the statements of a text that begins as a history does
unfoldable pub BeginsAsHistory : List (ℕ × List (List ℕ)) → Type 0
BeginsAsHistory [] = ⊥
BeginsAsHistory (first ∷ rest) = Writes first.1 parts_of_history

-- the text is a history of these lines, after its first
pub record IsHistory (text : List ℕ) (told : List HistoryLine) : Type 0 where
  pub first : ℕ × List (List ℕ)
  pub rest : List (ℕ × List (List ℕ))
  pub statements : statements_from 0 (lines text) ≡ first ∷ rest
  pub begins : Writes first.1 parts_of_history
  pub written : AreWritten rest told
  pub once : AreFresh [] told

-- what was read of statements that write lines
pub record ReadsTo (statements : List (ℕ × List (List ℕ))) (histories : Histories) : Type 0 where
  pub told : List HistoryLine
  pub written : AreWritten statements told
  pub once : AreFresh [] told
  pub are : AreTold histories told

-- what was read of one more statement
pub record ReadsNext (before : List HistoryLine) (words : List (List ℕ)) (histories : Histories) : Type 0 where
  pub line : HistoryLine
  pub written : IsLineOf words line
  pub fresh : IsFresh before line
  pub are : AreTold histories (before ++ line ∷ [])

-- ---- a text that is either, or none

abbrev pub Tells : List ℕ → List HistoryLine → Type 0
Tells text told = IsTraceThatTells text told ⊎ IsHistory text told

-- the histories in a text
pub record AreHistoriesOf (text : List ℕ) (histories : Histories) : Type 0 where
  pub told : List HistoryLine
  pub tells : Tells text told
  pub are : AreTold histories told

-- .. and their verdict
pub record IsJudgedText (text : List ℕ) (extent : Extent) (verdict : Verdict) : Type 0 where
  pub told : List HistoryLine
  pub tells : Tells text told
  pub is : IsVerdictOn (λ r. inits_in extent r told) (λ r. accesses_in extent r told) verdict

-- .. of a text that is known to be a trace
pub record AreHistoriesOfTrace (text : List ℕ) (histories : Histories) : Type 0 where
  pub told : List HistoryLine
  pub tells : IsTraceThatTells text told
  pub are : AreTold histories told

-- the line gives a value to a word that these lines gave one
unfoldable pub IsGivenAgain : List HistoryLine → HistoryLine → Type 0
IsGivenAgain before (history_lines.Init word value) = given_in word.0 before ≢ None
IsGivenAgain before (history_lines.Access access) = ⊥

-- the words write no line that may follow these
abbrev pub IsNoNext : List HistoryLine → List (List ℕ) → Type 0
IsNoNext before words =
    ((line : HistoryLine) → IsLineOf words line → ⊥)
    ⊎ ((line : HistoryLine) × (IsLineOf words line × IsGivenAgain before line))

-- the statement of this number is the first that writes no line that may be there
pub record IsFaultIn (statements : List (ℕ × List (List ℕ))) (number : ℕ) : Type 0 where
  pub before : List (ℕ × List (List ℕ))
  pub words : List (List ℕ)
  pub behind : List (ℕ × List (List ℕ))
  pub stands : statements ≡ before ++ (number, words) ∷ behind
  pub told : List HistoryLine
  pub written : AreWritten before told
  pub once : AreFresh [] told
  pub is : IsNoNext told words

-- .. of a text that begins as a history
pub record IsFaultOfHistory (statements : List (ℕ × List (List ℕ))) (number : ℕ) : Type 0 where
  pub first : ℕ × List (List ℕ)
  pub rest : List (ℕ × List (List ℕ))
  pub are : statements ≡ first ∷ rest
  pub begins : Writes first.1 parts_of_history
  pub is : IsFaultIn rest number

-- what is wrong with a text that begins otherwise, as a trace
pub record IsFaultOfOther (text : List ℕ) (number : ℕ) (fault : LineFault) : Type 0 where
  pub other : BeginsAsHistory (statements_from 0 (lines text)) → ⊥
  pub refused : IsNoTrace text
  pub line : IsFaultAt (statements_from 0 (lines text)) number
  pub is : IsFaultOfTrace (statements_from 0 (lines text)) number fault

-- why a text has no histories: memory ran out, or this line is the first invalid one
unfoldable pub IsFaultOf : List ℕ → TextFault → Type 0
IsFaultOf text text_faults.NoMemory = Unit {0}
IsFaultOf text (text_faults.Line number fault) =
    IsFaultOfHistory (statements_from 0 (lines text)) number ⊎ IsFaultOfOther text number fault
IsFaultOf text (text_faults.Config error) = ⊥
IsFaultOf text text_faults.CannotWrite = ⊥

-- .. while lines are read: memory ran out, or a line for which this holds is invalid
unfoldable pub IsNoMemoryOrAt : (ℕ → Type 0) → TextFault → Type 0
IsNoMemoryOrAt holds text_faults.NoMemory = Unit {0}
IsNoMemoryOrAt holds (text_faults.Line number fault) = holds number
IsNoMemoryOrAt holds (text_faults.Config error) = ⊥
IsNoMemoryOrAt holds text_faults.CannotWrite = ⊥
