-- How the lines of a litmus test are written.
use Rattle.std.specs.Prelude.{◌≡◌, ◌⊎◌, ℕ, Bool, true, false, List, [], ◌∷◌, codes, IsTrue}
use Rattle.litmus_text.specs.Form.{Part, key, num, Writes}
use Rattle.litmus_text.specs.ConfigLine.{parts_of_config_line}
use Rattle.litmus_text.specs.Field.{IsFieldName}
use Rattle.litmus_test.specs.declared.version.Version.{Version}
use Rattle.litmus_test.specs.declared.version.Version.TheVariants as versions
use Rattle.litmus_test.specs.declared.setting.Setting.{Setting}
use Rattle.litmus_test.specs.declared.setting.Setting.TheVariants as settings
use Rattle.litmus_test.specs.declared.line.Line.{Line as ReadLine}
use Rattle.litmus_test.specs.declared.line.Line.TheVariants as read_lines
use Rattle.litmus_test.specs.Name.{is_name}
use Rattle.litmus_test.specs.Claim.{WritesClaims, claims_of}

-- what a line says
pub data Line : Type 0 where
  setting : Setting → Line
  thread : ℕ → Line
  load : ℕ → List ℕ → Line
  store : ℕ → ℕ → Line
  add : ℕ → ℕ → List ℕ → Line
  cas : ℕ → ℕ → ℕ → List ℕ → Line
  settle : Line
  evict : ℕ → Line
  forbid : List (List ℕ × ℕ) → Line

-- the first line
abbrev pub number_of : Version → List ℕ
number_of versions.One = codes "1"
number_of versions.Two = codes "2"

abbrev pub parts_of_first : Version → List Part
parts_of_first version = key (codes "lockup-litmus") ∷ key (number_of version) ∷ []

-- the words are the first line of no version
abbrev pub IsNoFirstLine : List (List ℕ) → Type 0
IsNoFirstLine words = (version : Version) → ¬ Writes words (parts_of_first version)

-- version 1 can't express a compare-exchange
abbrev pub has_cas : Version → Bool
has_cas versions.One = false
has_cas versions.Two = true

-- the lines that come before all threads
abbrev pub parts_of_setting : Setting → List Part
parts_of_setting (settings.Config line) = parts_of_config_line line
parts_of_setting (settings.Rounds n) = key (codes "rounds") ∷ num n ∷ []
parts_of_setting (settings.Movers n) = key (codes "movers") ∷ num n ∷ []

unfoldable pub WritesSetting : List (List ℕ) → Setting → Type 0
WritesSetting words s = Writes words (parts_of_setting s)

-- the word is the first of such a line, also of one that isn't well formed
abbrev pub IsSettingName : List ℕ → Type 0
IsSettingName name = (name ≡ codes "rounds") ⊎ (name ≡ codes "movers") ⊎ IsFieldName name

abbrev pub BeginsAsSetting : List (List ℕ) → Type 0
BeginsAsSetting [] = ⊥
BeginsAsSetting (word ∷ words) = IsSettingName word

-- the words are a `forbid` line with these names and values
abbrev pub WritesForbid : List (List ℕ) → List (List ℕ × ℕ) → Type 0
WritesForbid [] claims = ⊥
WritesForbid (word ∷ words) claims = (word ≡ codes "forbid") × WritesClaims words claims

-- the words write the line
abbrev pub WritesLine : Version → List (List ℕ) → Line → Type 0
WritesLine version words (setting s) = WritesSetting words s
WritesLine version words (thread core) = Writes words (key (codes "thread") ∷ num core ∷ [])
WritesLine version words (load word name) =
    Writes words (key (codes "load") ∷ num word ∷ key name ∷ []) × IsTrue (is_name name)
WritesLine version words (store word value) = Writes words (key (codes "store") ∷ num word ∷ num value ∷ [])
WritesLine version words (add word delta name) =
    Writes words (key (codes "add") ∷ num word ∷ num delta ∷ key name ∷ []) × IsTrue (is_name name)
WritesLine version words (cas word expect new name) =
    Writes words (key (codes "cas") ∷ num word ∷ num expect ∷ num new ∷ key name ∷ []) × IsTrue (is_name name)
    × IsTrue (has_cas version)
WritesLine version words settle = Writes words (key (codes "settle") ∷ [])
WritesLine version words (evict line) = Writes words (key (codes "evict") ∷ num line ∷ [])
WritesLine version words (forbid claims) = WritesForbid words claims

-- a line that was read, which is no setting
abbrev pub line_of : ReadLine → Line
line_of (read_lines.Thread core) = thread core
line_of (read_lines.Load word name) = load word name.now
line_of (read_lines.Store word value) = store word value
line_of (read_lines.Add word delta name) = add word delta name.now
line_of (read_lines.Cas word expect new name) = cas word expect new name.now
line_of read_lines.Settle = settle
line_of (read_lines.Evict line) = evict line
line_of (read_lines.Forbid claims) = forbid (claims_of claims.items)
