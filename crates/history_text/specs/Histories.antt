-- The histories of words or of lines, by the lines of a text.
use Rattle.std.specs.Prelude.{◌≡◌, ℕ, ◌/◌, ◌==◌, if◌then◌else◌, List, [], filter_map, find, slice_get, Option, Some, None}
use Rattle.std.specs.Option.{option_map}
use Rattle.address_map.specs.declared.address.WordAddr.{WordAddr}
use Rattle.slice_log.specs.declared.entry.Entry.{Entry}
use Rattle.trace_check.specs.declared.trace_line.TraceLine.{TraceLine}
use Rattle.trace_check.specs.declared.trace_line.TraceLine.TheVariants as trace_lines
use Rattle.history_judge.specs.declared.access.Access.{Access}
use Rattle.history_text.specs.declared.extent.Extent.{Extent}
use Rattle.history_text.specs.declared.extent.Extent.TheVariants as extents
use Rattle.history_text.specs.declared.histories.Histories.{Histories}
use Rattle.history_text.specs.declared.histories.History.{History}
use Rattle.history_text.specs.declared.history_line.HistoryLine.{HistoryLine}
use Rattle.history_text.specs.declared.history_line.HistoryLine.TheVariants as history_lines

-- what a word is judged with: the word itself, or its line
abbrev pub row_of : Extent → ℕ → ℕ
row_of extents.Word w = w
row_of extents.Line w = w / 8

-- the value that a line gives to a word of this row, or its access there
abbrev pub init_on : Extent → ℕ → HistoryLine → Option (WordAddr × ℕ)
init_on extent r (history_lines.Init word value) = if row_of extent word.0 == r then Some (word, value) else None
init_on extent r (history_lines.Access access) = None

abbrev pub access_on : Extent → ℕ → HistoryLine → Option Access
access_on extent r (history_lines.Init word value) = None
access_on extent r (history_lines.Access access) = if row_of extent access.word.0 == r then Some access else None

-- the values that words of a row are given by some lines, and their accesses, in the lines' order
abbrev pub inits_in : Extent → ℕ → List HistoryLine → List (WordAddr × ℕ)
inits_in extent r lines = filter_map (init_on extent r) lines

abbrev pub accesses_in : Extent → ℕ → List HistoryLine → List Access
accesses_in extent r lines = filter_map (access_on extent r) lines

-- the first value that a word has among these
abbrev pub value_in : List (WordAddr × ℕ) → ℕ → Option ℕ
value_in given w = option_map (λ pair. pair.1) (find (λ pair. pair.0.0 == w) given)

-- .. among those that some lines give
abbrev pub given_in : ℕ → List HistoryLine → Option ℕ
given_in w lines = value_in (inits_in extents.Word w lines) w

-- what a line of a trace says of a word: an entry as its core saw it, without the times when it began and ended
abbrev pub access_of : Entry → Access
access_of e =
    record { op = e.op; reply = e.reply; begin = 0; end = 18446744073709551615; word = e.word; core = e.core }

abbrev pub line_of : TraceLine → HistoryLine
line_of (trace_lines.Init word value) = history_lines.Init word value
line_of (trace_lines.Entry e) = history_lines.Access (access_of e)

-- what is kept of a row: nothing of those past the last
abbrev pub inits_of : Option History → List (WordAddr × ℕ)
inits_of None = []
inits_of (Some history) = history.given.items

abbrev pub accesses_of : Option History → List Access
accesses_of None = []
accesses_of (Some history) = history.accesses.items

abbrev pub inits_at : Histories → ℕ → List (WordAddr × ℕ)
inits_at histories r = inits_of (slice_get histories.rows.items r)

abbrev pub accesses_at : Histories → ℕ → List Access
accesses_at histories r = accesses_of (slice_get histories.rows.items r)

-- the value that a word was given
abbrev pub given_at : Histories → ℕ → Option ℕ
given_at histories w = value_in (inits_at histories (row_of histories.extent w)) w

-- these are the histories in the lines
pub record AreTold (histories : Histories) (lines : List HistoryLine) : Type 0 where
  pub inits : (r : ℕ) → inits_at histories r ≡ inits_in histories.extent r lines
  pub accesses : (r : ℕ) → accesses_at histories r ≡ accesses_in histories.extent r lines
