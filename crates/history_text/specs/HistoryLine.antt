-- How the lines of a history are written.
use Rattle.std.specs.Prelude.{◌≡◌, ◌≢◌, ℕ, ◌+◌, ◌<◌, ◌≤◌, ◌==◌, ◌++◌, Bool, List, [], ◌∷◌, Option, Some, None, codes}
use Rattle.std.specs.Prelude.{drop, slice_index, take, Result, IfOk, IfErr}
use Rattle.std.specs.List.{position}
use Rattle.std.specs.Str.Parse.{digits_value}
use Rattle.address_map.specs.declared.request.Op.{Op}
use Rattle.address_map.specs.declared.request.Op.TheVariants as ops
use Rattle.litmus_text.specs.Form.{Part, key, num, Writes}
use Rattle.litmus_text.specs.Number.{IsNumber}
use Rattle.litmus_text.specs.declared.fault.LineFault.{LineFault}
use Rattle.trace_check.specs.declared.judge.TheConstants.{MOST_CORES, MOST_WORDS}
use Rattle.history_judge.specs.declared.access.Access.{Access}
use Rattle.history_text.specs.declared.history_line.HistoryLine.{HistoryLine}
use Rattle.history_text.specs.declared.history_line.HistoryLine.TheVariants as history_lines
use Rattle.history_text.specs.declared.history_line.Told.{Told}

-- the first line
abbrev pub parts_of_history : List Part
parts_of_history = key (codes "lockup-history") ∷ key (codes "1") ∷ []

-- the text is a number of this value
abbrev pub IsNumberOf : List ℕ → ℕ → Type 0
IsNumberOf text n = IsNumber text × (digits_value 10 text ≡ n)

-- the words write an access, with its reply, which for a store is 0 and isn't written
unfoldable pub IsTold : List (List ℕ) → Op → ℕ → ℕ → Type 0
IsTold words ops.Load word reply = Writes words (key (codes "load") ∷ num word ∷ num reply ∷ [])
IsTold words (ops.Store value) word reply =
    Writes words (key (codes "store") ∷ num word ∷ num value ∷ []) × (reply ≡ 0)
IsTold words (ops.Add delta) word reply = Writes words (key (codes "add") ∷ num word ∷ num delta ∷ num reply ∷ [])
IsTold words (ops.Cas expect new) word reply =
    Writes words (key (codes "cas") ∷ num word ∷ num expect ∷ num new ∷ num reply ∷ [])

-- whether a byte is a dot
abbrev pub is_dot : ℕ → Bool
is_dot b = b == 46

-- the text is BEGIN..END, split at its first dot
pub record IsInterval (text : List ℕ) (begin end : ℕ) : Type 0 where
  pub at : ℕ
  pub parted : position is_dot text ≡ Some at
  pub before : IsNumberOf (take at text) begin
  pub second_dot : slice_index text (at + 1) ≡ 46
  pub behind : IsNumberOf (drop (at + 2) text) end

-- the words are those of an access, and then those of its times, after an @
abbrev pub IsParted : List (List ℕ) → List (List ℕ) → Option (List ℕ) → Type 0
IsParted words told None = (words ≡ told) × ((front : List (List ℕ)) (times : List ℕ) → words ≢ front ++ (64 ∷ times) ∷ [])
IsParted words told (Some times) = words ≡ told ++ (64 ∷ times) ∷ []

-- when an access began and ended: at any time if no times are given
abbrev pub IsDuring : Option (List ℕ) → ℕ → ℕ → Type 0
IsDuring None begin end = (begin ≡ 0) × (end ≡ 18446744073709551615)
IsDuring (Some times) begin end = IsInterval times begin end

-- what an access names is in range
pub record IsInRange (access : Access) : Type 0 where
  pub core_in : access.core.0 < MOST_CORES
  pub word_in : access.word.0 < MOST_WORDS
  pub in_order : access.begin ≤ access.end

-- the line is the access of this core that the words write, with these times
unfoldable pub IsAccessBy : List ℕ → List (List ℕ) → ℕ → ℕ → HistoryLine → Type 0
IsAccessBy core told begin end (history_lines.Init word value) = ⊥
IsAccessBy core told begin end (history_lines.Access access) =
    IsNumberOf core access.core.0 × IsTold told access.op access.word.0 access.reply × (access.begin ≡ begin)
    × (access.end ≡ end) × IsInRange access

-- the words are those of an access
pub record IsAccessLine (words : List (List ℕ)) (line : HistoryLine) : Type 0 where
  pub core : List ℕ
  pub behind : List (List ℕ)
  pub shape : words ≡ codes "core" ∷ core ∷ behind
  pub told : List (List ℕ)
  pub times : Option (List ℕ)
  pub parted : IsParted behind told times
  pub begin : ℕ
  pub end : ℕ
  pub during : IsDuring times begin end
  pub is : IsAccessBy core told begin end line

-- the words write the line
unfoldable pub IsLineOf : List (List ℕ) → HistoryLine → Type 0
IsLineOf words (history_lines.Init word value) =
    Writes words (key (codes "init") ∷ num word.0 ∷ num value ∷ []) × (word.0 < MOST_WORDS)
IsLineOf words (history_lines.Access access) = IsAccessLine words (history_lines.Access access)

-- words are read as a line that they write, or they write none
pub record ReadsAsLine (words : List (List ℕ)) (result : Result HistoryLine LineFault) : Type 0 where
  pub written : IfOk result (IsLineOf words)
  pub refused : IfErr result (λ fault. (line : HistoryLine) → IsLineOf words line → ⊥)

-- words are read as an access that they write, of the only word that they name, or they write none
pub record ReadsAsTold (words : List (List ℕ)) (result : Result Told LineFault) : Type 0 where
  pub told : IfOk result (λ it. IsTold words it.op it.word it.reply)
  pub only : IfOk result (λ it. (op : Op) (word reply : ℕ) → IsTold words op word reply → word ≡ it.word)
  pub refused : IfErr result (λ fault. (op : Op) (word reply : ℕ) → IsTold words op word reply → ⊥)
