-- The words that the lines of programs begin with.
use Rattle.std.specs.Prelude.{◌≡◌, ◌≢◌, ℕ, List, [], ◌∷◌, Option, None, Some, codes, length}
use Rattle.litmus_text.specs.Table.{value_named}
use Rattle.litmus_text.specs.declared.fault.LineFault.{LineFault}
use Rattle.litmus_text.specs.declared.fault.LineFault.TheVariants as line_faults
use Rattle.program_text.specs.declared.keyword.Keyword.{Keyword}
use Rattle.program_text.specs.declared.keyword.Keyword.TheVariants as keywords

abbrev pub name_of_keyword : Keyword → List ℕ
name_of_keyword keywords.Outstanding = codes "outstanding"
name_of_keyword keywords.Pace = codes "pace"
name_of_keyword keywords.Core = codes "core"
name_of_keyword keywords.Load = codes "load"
name_of_keyword keywords.Store = codes "store"
name_of_keyword keywords.Add = codes "add"
name_of_keyword keywords.Cas = codes "cas"
name_of_keyword keywords.Settle = codes "settle"
name_of_keyword keywords.Repeat = codes "repeat"
name_of_keyword keywords.End = codes "end"

abbrev pub keywords_by_name : List (List ℕ × Keyword)
keywords_by_name =
    (codes "outstanding", keywords.Outstanding) ∷ (codes "pace", keywords.Pace) ∷ (codes "core", keywords.Core)
    ∷ (codes "load", keywords.Load) ∷ (codes "store", keywords.Store) ∷ (codes "add", keywords.Add) ∷ (codes "cas", keywords.Cas)
    ∷ (codes "settle", keywords.Settle) ∷ (codes "repeat", keywords.Repeat) ∷ (codes "end", keywords.End) ∷ []

-- how many words follow it
abbrev pub words_behind : Keyword → ℕ
words_behind keywords.Outstanding = 1
words_behind keywords.Pace = 1
words_behind keywords.Core = 1
words_behind keywords.Load = 1
words_behind keywords.Store = 2
words_behind keywords.Add = 2
words_behind keywords.Cas = 3
words_behind keywords.Settle = 0
words_behind keywords.Repeat = 1
words_behind keywords.End = 0

-- where `wanted` words are expected: if there are that many, one is no number; if not, they are no command
pub record IsCountFault (wanted : ℕ) (words : List (List ℕ)) (fault : LineFault) : Type 0 where
  pub as_many : length words ≡ wanted → fault ≡ line_faults.BadNumber
  pub other : length words ≢ wanted → fault ≡ line_faults.NotACommand

-- .. after this word
abbrev pub IsKeywordFault : Option Keyword → List (List ℕ) → LineFault → Type 0
IsKeywordFault None words fault = fault ≡ line_faults.NotACommand
IsKeywordFault (Some keyword) words fault = IsCountFault (words_behind keyword) words fault

-- what is wrong with words that write no line of a program: their first word and their number are judged, then numbers
abbrev pub IsFormFault : List (List ℕ) → LineFault → Type 0
IsFormFault [] fault = fault ≡ line_faults.NotACommand
IsFormFault (name ∷ words) fault = IsKeywordFault (value_named keywords_by_name name) words fault
