-- How the lines of programs are written.
use Rattle.std.specs.Prelude.{◌≡◌, ℕ, List, [], ◌∷◌, codes}
use Rattle.address_map.specs.declared.request.Op.TheVariants as ops
use Rattle.litmus_text.specs.ConfigLine.{parts_of_config_line}
use Rattle.litmus_text.specs.Field.{IsFieldName}
use Rattle.litmus_text.specs.Form.{Part, key, num, Writes}
use Rattle.litmus_text.specs.declared.config_line.ConfigLine.{ConfigLine}
use Rattle.program_text.specs.Range.{IsRange}
use Rattle.program_text.specs.declared.line.Line.{Line as ReadLine}
use Rattle.program_text.specs.declared.line.Line.TheVariants as read_lines

-- what a line says
pub data Line : Type 0 where
  setting : ConfigLine → Line
  limit : ℕ → Line
  pace : ℕ → Line
  begin : ℕ → Line
  load : ℕ → ℕ → Line
  store : ℕ → ℕ → ℕ → Line
  add : ℕ → ℕ → ℕ → Line
  cas : ℕ → ℕ → ℕ → ℕ → Line
  settle : Line
  repeat : ℕ → Line
  end : Line

-- the words write a range, and after it the parts
unfoldable pub WritesRange : List (List ℕ) → ℕ → ℕ → List Part → Type 0
WritesRange [] first last parts = ⊥
WritesRange (range ∷ words) first last parts = IsRange range first last × Writes words parts

-- .. after this name
abbrev pub WritesAccess : List ℕ → List (List ℕ) → ℕ → ℕ → List Part → Type 0
WritesAccess name [] first last parts = ⊥
WritesAccess name (word ∷ words) first last parts = (word ≡ name) × WritesRange words first last parts

unfoldable pub WritesSetting : List (List ℕ) → ConfigLine → Type 0
WritesSetting words line = Writes words (parts_of_config_line line)

-- the words write the line
abbrev pub WritesLine : List (List ℕ) → Line → Type 0
WritesLine words (setting line) = WritesSetting words line
WritesLine words (limit most) = Writes words (key (codes "outstanding") ∷ num most ∷ [])
WritesLine words (pace most) = Writes words (key (codes "pace") ∷ num most ∷ [])
WritesLine words (begin number) = Writes words (key (codes "core") ∷ num number ∷ [])
WritesLine words (load first last) = WritesAccess (codes "load") words first last []
WritesLine words (store first last value) = WritesAccess (codes "store") words first last (num value ∷ [])
WritesLine words (add first last delta) = WritesAccess (codes "add") words first last (num delta ∷ [])
WritesLine words (cas first last expect new) =
    WritesAccess (codes "cas") words first last (num expect ∷ num new ∷ [])
WritesLine words settle = Writes words (key (codes "settle") ∷ [])
WritesLine words (repeat times) = Writes words (key (codes "repeat") ∷ num times ∷ [])
WritesLine words end = Writes words (key (codes "end") ∷ [])

-- the first word is that of a line that configures, also of one that isn't well formed
abbrev pub BeginsAsSetting : List (List ℕ) → Type 0
BeginsAsSetting [] = ⊥
BeginsAsSetting (word ∷ words) = IsFieldName word

-- a line that was read, which configures nothing
abbrev pub line_of : ReadLine → Line
line_of (read_lines.Outstanding most) = limit most
line_of (read_lines.Pace most) = pace most
line_of (read_lines.Core number) = begin number
line_of (read_lines.Access range ops.Load) = load range.first range.last
line_of (read_lines.Access range (ops.Store value)) = store range.first range.last value
line_of (read_lines.Access range (ops.Add delta)) = add range.first range.last delta
line_of (read_lines.Access range (ops.Cas expect new)) = cas range.first range.last expect new
line_of read_lines.Settle = settle
line_of (read_lines.Repeat times) = repeat times
line_of read_lines.End = end
