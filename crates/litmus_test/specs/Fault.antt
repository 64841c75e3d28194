-- What is wrong with a text that is no litmus test: which line is invalid, and how.
use Rattle.std.specs.Prelude.{◌≡◌, ◌≢◌, ◌⊎◌, ℕ, ◌<◌, ◌≤◌, ◌/◌, Bool, true, false, List, [], ◌∷◌, ◌++◌, Contains, IsTrue}
use Rattle.std.specs.Prelude.{Option, None, Some, get_or, length, take}
use Rattle.std.specs.List.{list_all, position}
use Rattle.address_map.specs.Config.{first_fault}
use Rattle.address_map.specs.declared.config.Config.{Config}
use Rattle.address_map.specs.declared.config.ConfigError.{ConfigError}
use Rattle.litmus_text.specs.Form.{IsFormFaultOf, Writes}
use Rattle.litmus_text.specs.Table.{value_named}
use Rattle.litmus_text.specs.declared.fault.LineFault.{LineFault}
use Rattle.litmus_text.specs.declared.fault.LineFault.TheVariants as line_faults
use Rattle.litmus_text.specs.declared.fault.TextFault.{TextFault}
use Rattle.litmus_text.specs.declared.fault.TextFault.TheVariants as text_faults
use Rattle.litmus_test.specs.declared.keyword.Keyword.{Keyword}
use Rattle.litmus_test.specs.declared.keyword.Keyword.TheVariants as keywords
use Rattle.litmus_test.specs.declared.setting.Setting.{Setting}
use Rattle.litmus_test.specs.declared.setting.Setting.TheVariants as settings
use Rattle.litmus_test.specs.declared.test.TheConstants.{MOST_MOVERS, MOST_NAMES, MOST_PAIRS, MOST_ROUNDS, MOST_STEPS}
use Rattle.litmus_test.specs.declared.version.Version.{Version}
use Rattle.litmus_test.specs.Claim.{is_equals_sign}
use Rattle.litmus_test.specs.Keyword.{keywords_by_name}
use Rattle.litmus_test.specs.Line.{BeginsAsSetting, IsNoFirstLine, Line, WritesLine, add, cas, evict, forbid, has_cas}
use Rattle.litmus_test.specs.Line.{load, parts_of_first, parts_of_setting, setting, settle, store, thread}
use Rattle.litmus_test.specs.Name.{is_name}
use Rattle.litmus_test.specs.Sound.{IsChecked}
use Rattle.litmus_test.specs.Text.{IsEarly, MayAccess, MayName, MayStep, Said, Says, has_core, has_name, last_steps}
use Rattle.litmus_test.specs.Text.{said_nothing}

-- ---- a line that is well formed, in its place

-- Settings come first, then threads with their steps, then outcomes: a line that begins with this word, or as a
-- setting, is in the part of others.
abbrev pub IsAstray : Said → Option Keyword → Type 0
IsAstray said None = (said.threads ≡ []) × (said.forbidden ≢ [])
IsAstray said (Some keywords.Thread) = said.forbidden ≢ []
IsAstray said (Some keywords.Forbid) = ⊥
IsAstray said (Some step) = (said.threads ≡ []) ⊎ (said.forbidden ≢ [])

-- a setting has a value that none may have
abbrev pub IsPastRange : Setting → Type 0
IsPastRange (settings.Config line) = ⊥
IsPastRange (settings.Rounds n) = (n ≡ 0) ⊎ (MOST_ROUNDS < n)
IsPastRange (settings.Movers n) = MOST_MOVERS < n

-- what is wrong with a setting: its part, or else that threads were begun, or else its value
abbrev pub HasSettingFault : Said → Setting → LineFault → Type 0
HasSettingFault said s fault =
    (IsAstray said None × (fault ≡ line_faults.NotACommand))
    ⊎ ((said.threads ≢ []) × (fault ≡ line_faults.LateConfiguration))
    ⊎ (IsEarly said × IsPastRange s × (fault ≡ line_faults.OutOfRange))

-- .. with a thread: its part, or else its core
abbrev pub HasThreadFault : Said → ℕ → LineFault → Type 0
HasThreadFault said core fault =
    (IsAstray said (Some keywords.Thread) × (fault ≡ line_faults.NotACommand))
    ⊎ ((said.forbidden ≡ []) × ((said.settings.config.cores ≤ core) ⊎ (has_core core said.threads ≡ true))
    × (fault ≡ line_faults.OutOfRange))

-- .. with a step: its part, or else that its thread has the maximum number
abbrev pub HasStepFault : Said → LineFault → Type 0
HasStepFault said fault =
    (IsAstray said (Some keywords.Settle) × (fault ≡ line_faults.NotACommand))
    ⊎ ((said.threads ≢ []) × (said.forbidden ≡ []) × (MOST_STEPS ≤ last_steps said.threads)
    × (fault ≡ line_faults.OutOfRange))

-- .. and then with what it names: a word or a line that the machine lacks, a name, a counter that is overwritten
abbrev pub HasAccessFault : Said → ℕ → LineFault → Type 0
HasAccessFault said word fault =
    HasStepFault said fault
    ⊎ (MayStep said × (said.settings.config.lines ≤ word / 8) × (fault ≡ line_faults.OutOfRange))

abbrev pub HasEvictFault : Said → ℕ → LineFault → Type 0
HasEvictFault said line fault =
    HasStepFault said fault
    ⊎ (MayStep said × (said.settings.config.lines ≤ line) × (fault ≡ line_faults.OutOfRange))

abbrev pub HasNameFault : Said → List ℕ → LineFault → Type 0
HasNameFault said name fault =
    ((has_name name said.names ≡ true) × (fault ≡ line_faults.NameUsedTwice))
    ⊎ ((has_name name said.names ≡ false) × (MOST_NAMES ≤ length said.names) × (fault ≡ line_faults.TooManyNames))

abbrev pub HasCounterFault : Said → ℕ → LineFault → Type 0
HasCounterFault said word fault =
    Contains said.settings.config.counters (record { 0 = word }) × (fault ≡ line_faults.StoreToACounter)

abbrev pub HasForbidFault : Said → List (List ℕ × ℕ) → LineFault → Type 0
HasForbidFault said claims fault =
    (list_all (λ (claim : List ℕ × ℕ). has_name claim.0 said.names) claims ≡ false)
    × (fault ≡ line_faults.UnknownName)

-- what is wrong with a line after what was said: the first of these
unfoldable pub HasFault : Said → Line → LineFault → Type 0
HasFault said (setting s) fault = HasSettingFault said s fault
HasFault said (thread core) fault = HasThreadFault said core fault
HasFault said (load word name) fault =
    HasAccessFault said word fault ⊎ (MayAccess said word × HasNameFault said name fault)
HasFault said (store word value) fault =
    HasAccessFault said word fault ⊎ (MayAccess said word × HasCounterFault said word fault)
HasFault said (add word delta name) fault =
    HasAccessFault said word fault ⊎ (MayAccess said word × HasNameFault said name fault)
HasFault said (cas word expect new name) fault =
    HasAccessFault said word fault ⊎ (MayAccess said word × HasNameFault said name fault)
    ⊎ (MayAccess said word × MayName said name × HasCounterFault said word fault)
HasFault said settle fault = HasStepFault said fault
HasFault said (evict line) fault = HasEvictFault said line fault
HasFault said (forbid claims) fault = HasForbidFault said claims fault

-- ---- a line that isn't

-- whether a word is NAME=VALUE, with any word as VALUE: it is split at its first `=`
abbrev pub names_reply : Option ℕ → List ℕ → Bool
names_reply None word = false
names_reply (Some at) word = is_name (take at word)

abbrev pub has_claim_form : List ℕ → Bool
has_claim_form word = names_reply (position is_equals_sign word) word

-- one to 16 such words
abbrev pub HasClaimsForm : List (List ℕ) → Type 0
HasClaimsForm words =
    (1 ≤ length words) × (length words ≤ MOST_PAIRS) × IsTrue (list_all has_claim_form words)

-- the words after a keyword have the form of its line, with any words for numbers
abbrev pub HasForm : Version → Keyword → List (List ℕ) → Type 0
HasForm version keywords.Thread words = length words ≡ 1
HasForm version keywords.Load words = (length words ≡ 2) × IsTrue (is_name (get_or words 1 []))
HasForm version keywords.Store words = length words ≡ 2
HasForm version keywords.Add words = (length words ≡ 3) × IsTrue (is_name (get_or words 2 []))
HasForm version keywords.Cas words =
    (length words ≡ 4) × IsTrue (is_name (get_or words 3 [])) × IsTrue (has_cas version)
HasForm version keywords.Settle words = length words ≡ 0
HasForm version keywords.Evict words = length words ≡ 1
HasForm version keywords.Forbid words = HasClaimsForm words

-- words of this form have a number that can't be read, and any others are no line
pub record IsFormFault (Form : Type 0) (fault : LineFault) : Type 0 where
  pub as_form : Form → fault ≡ line_faults.BadNumber
  pub other : ¬ Form → fault ≡ line_faults.NotACommand

-- the keyword at the beginning of words
abbrev pub keyword_of : List (List ℕ) → Option Keyword
keyword_of [] = None
keyword_of (name ∷ words) = value_named keywords_by_name name

-- what is wrong with words that write no line, by the keyword with which they begin
abbrev pub IsKeywordFault : Version → Option Keyword → List (List ℕ) → LineFault → Type 0
IsKeywordFault version None words fault = fault ≡ line_faults.NotACommand
IsKeywordFault version (Some keyword) words fault = IsFormFault (HasForm version keyword words) fault

abbrev pub IsLineFault : Version → List (List ℕ) → LineFault → Type 0
IsLineFault version [] fault = fault ≡ line_faults.NotACommand
IsLineFault version (name ∷ words) fault =
    IsKeywordFault version (value_named keywords_by_name name) words fault

-- .. or by how settings are written, if they begin as one
abbrev pub IsMalformed : Version → List (List ℕ) → LineFault → Type 0
IsMalformed version words fault =
    (BeginsAsSetting words × IsFormFaultOf parts_of_setting words fault)
    ⊎ ((¬ BeginsAsSetting words) × IsLineFault version words fault)

-- what is wrong with words that write no line, after what was said: their part comes before their form
pub record IsNoLine (version : Version) (said : Said) (words : List (List ℕ)) (fault : LineFault) : Type 0 where
  pub none : (line : Line) → ¬ WritesLine version words line
  pub astray : IsAstray said (keyword_of words) → fault ≡ line_faults.NotACommand
  pub placed : ¬ IsAstray said (keyword_of words) → IsMalformed version words fault

-- ---- the text

-- what is wrong with words after what was said: with the line that they write, or else that they write none
abbrev pub IsWrong : Version → Said → List (List ℕ) → LineFault → Type 0
IsWrong version said words fault =
    ((line : Line) × WritesLine version words line × HasFault said line fault) ⊎ IsNoLine version said words fault

-- The line of this number is the first invalid one: those before it say `said`. It is checked only if it is a setting,
-- or the configuration is allowed.
pub record IsFaultyLine (version : Version) (start : Said) (statements : List (ℕ × List (List ℕ))) (number : ℕ)
    (fault : LineFault) : Type 0 where
  pub before : List (ℕ × List (List ℕ))
  pub words : List (List ℕ)
  pub behind : List (ℕ × List (List ℕ))
  pub stands : statements ≡ before ++ (number, words) ∷ behind
  pub said : Said
  pub says : Says version start before said
  pub ready : BeginsAsSetting words ⊎ IsChecked said.settings.config
  pub wrong : IsWrong version said words fault

-- the first of the statements is no setting, if there is one
abbrev pub BeginOtherwise : List (ℕ × List (List ℕ)) → Type 0
BeginOtherwise [] = Unit {0}
BeginOtherwise (statement ∷ more) = ¬ BeginsAsSetting statement.1

-- what the lines say up to the first that is no setting, or to the end, configures with this fault
pub record IsConfigFault (version : Version) (start : Said) (statements : List (ℕ × List (List ℕ)))
    (error : ConfigError) : Type 0 where
  pub before : List (ℕ × List (List ℕ))
  pub behind : List (ℕ × List (List ℕ))
  pub split : statements ≡ before ++ behind
  pub said : Said
  pub says : Says version start before said
  pub others : BeginOtherwise behind
  pub is_fault : first_fault said.settings.config ≡ Some error

-- why reading the statements stops, after what was said before; memory may also run out
abbrev pub IsFaultAmong : Version → Said → List (ℕ × List (List ℕ)) → TextFault → Type 0
IsFaultAmong version start statements (text_faults.Line number fault) =
    IsFaultyLine version start statements number fault
IsFaultAmong version start statements (text_faults.Config error) = IsConfigFault version start statements error
IsFaultAmong version start statements text_faults.NoMemory = Unit {0}
IsFaultAmong version start statements text_faults.CannotWrite = ⊥

-- Why a text, by its statements, is no litmus test: it is empty or begins as none, or else why reading the others
-- stops. Memory may also run out.
abbrev pub IsNoTestFault : ℕ → TextFault → Type 0
IsNoTestFault line (text_faults.Line number fault) = (number ≡ line) × (fault ≡ line_faults.NotALitmusText)
IsNoTestFault line text_faults.NoMemory = Unit {0}
IsNoTestFault line other = ⊥

abbrev pub IsFault : List (ℕ × List (List ℕ)) → TextFault → Type 0
IsFault [] fault = IsNoTestFault 1 fault
IsFault (first ∷ rest) fault =
    (IsNoFirstLine first.1 × IsNoTestFault first.0 fault)
    ⊎ ((version : Version) × Writes first.1 (parts_of_first version)
    × IsFaultAmong version said_nothing rest fault)

-- ---- while reading

-- what is wrong with the next statement, after what was said
abbrev pub IsNextFault : Version → Said → ℕ → List (List ℕ) → TextFault → Type 0
IsNextFault version said line words (text_faults.Line number fault) =
    (number ≡ line) × IsWrong version said words fault
IsNextFault version said line words (text_faults.Config error) = ⊥
IsNextFault version said line words text_faults.NoMemory = Unit {0}
IsNextFault version said line words text_faults.CannotWrite = ⊥

-- .. with a line in its place
abbrev pub IsPlaceFault : Said → ℕ → Line → TextFault → Type 0
IsPlaceFault said number line (text_faults.Line n fault) = (n ≡ number) × HasFault said line fault
IsPlaceFault said number line (text_faults.Config error) = ⊥
IsPlaceFault said number line text_faults.NoMemory = Unit {0}
IsPlaceFault said number line text_faults.CannotWrite = ⊥

-- .. with a configuration that is refused
abbrev pub IsSettingsFault : Config → TextFault → Type 0
IsSettingsFault config (text_faults.Config error) = first_fault config ≡ Some error
IsSettingsFault config other = ⊥
