-- What the text of a litmus test says.
use Rattle.std.specs.Prelude.{◌≡◌, ◌⊎◌, ℕ, Bool, true, false, ◌-◌, ◌<◌, ◌≤◌, ◌/◌, ◌==◌, List, [], ◌∷◌, ◌++◌, length}
use Rattle.std.specs.Prelude.{map, Contains, unwrap_or}
use Rattle.std.specs.List.{list_all, list_any, position}
use Rattle.std.specs.Str.{bytes_eq}
use Rattle.std.specs.Str.Lines.{lines}
use Rattle.address_map.specs.declared.address.CoreId.{CoreId}
use Rattle.address_map.specs.declared.request.Op.TheVariants as ops
use Rattle.litmus_text.specs.ConfigLine.{after_config_line}
use Rattle.litmus_text.specs.Fault.{IsFirstFault}
use Rattle.litmus_text.specs.Form.{Writes}
use Rattle.litmus_text.specs.Settings.{default_settings}
use Rattle.litmus_text.specs.Statement.{statements_from}
use Rattle.litmus_text.specs.declared.settings.Settings.{Settings}
use Rattle.litmus_test.specs.declared.setting.Setting.{Setting}
use Rattle.litmus_test.specs.declared.setting.Setting.TheVariants as settings
use Rattle.litmus_test.specs.declared.test.Action.{Action}
use Rattle.litmus_test.specs.declared.test.Action.TheVariants as actions
use Rattle.litmus_test.specs.declared.test.Pair.{Pair}
use Rattle.litmus_test.specs.declared.test.Thread.{Thread}
use Rattle.litmus_test.specs.declared.test.NamedReply.{NamedReply}
use Rattle.litmus_test.specs.declared.test.Forbidden.{Forbidden}
use Rattle.litmus_test.specs.declared.test.LitmusTest.{LitmusTest}
use Rattle.litmus_test.specs.declared.test.TheConstants.{MOST_ROUNDS, MOST_MOVERS, MOST_STEPS, MOST_NAMES}
use Rattle.litmus_test.specs.declared.version.Version.{Version}
use Rattle.litmus_test.specs.Sound.{IsChecked}
use Rattle.litmus_test.specs.Line.{Line, setting, thread, load, store, add, cas, settle, evict, forbid, IsNoFirstLine}
use Rattle.litmus_test.specs.Line.{WritesLine, parts_of_first}

-- a name, and the step whose reply it names: the thread and the step, from 0
pub record Reply : Type 0 where
  pub name : List ℕ
  pub thread : ℕ
  pub step : ℕ

-- what was said so far
pub record Said : Type 0 where
  pub settings : Settings
  pub rounds : ℕ
  pub movers : ℕ
  pub threads : List (CoreId × List Action)
  pub names : List Reply
  pub forbidden : List (List Pair)

-- the state in which nothing was said
abbrev pub said_nothing : Said
said_nothing =
    record { settings = default_settings; rounds = 1; movers = 1; threads = []; names = []; forbidden = [] }

-- the last of the threads has one more step
abbrev pub with_step : Action → List (CoreId × List Action) → List (CoreId × List Action)
with_step action [] = []
with_step action (last ∷ []) = (last.0, last.1 ++ action ∷ []) ∷ []
with_step action (first ∷ next ∷ more) = first ∷ with_step action (next ∷ more)

-- the number of steps of the last thread
abbrev pub last_steps : List (CoreId × List Action) → ℕ
last_steps [] = 0
last_steps (last ∷ []) = length last.1
last_steps (first ∷ next ∷ more) = last_steps (next ∷ more)

-- one more setting
abbrev pub said_setting : Said → Setting → Said
said_setting said (settings.Config line) = record said { settings = after_config_line said.settings line }
said_setting said (settings.Rounds n) = record said { rounds = n }
said_setting said (settings.Movers n) = record said { movers = n }

-- one more step, and one with a name
abbrev pub said_step : Said → Action → Said
said_step said action = record said { threads = with_step action said.threads }

abbrev pub said_named : Said → Action → List ℕ → Said
said_named said action name =
    record said {
      threads = with_step action said.threads;
      names = said.names
          ++ record { name = name; thread = length said.threads - 1; step = last_steps said.threads } ∷ [];
    }

-- whether a reply has the name, and a thread the core
abbrev pub has_name : List ℕ → List Reply → Bool
has_name name replies = list_any (λ (reply : Reply). bytes_eq reply.name name) replies

abbrev pub has_core : ℕ → List (CoreId × List Action) → Bool
has_core core programs = list_any (λ (program : CoreId × List Action). program.0.0 == core) programs

-- the place of a name among others, and the pair of a claim
abbrev pub place_of : List Reply → List ℕ → ℕ
place_of names name = unwrap_or (position (λ (reply : Reply). bytes_eq reply.name name) names) 0

abbrev pub pair_of : List Reply → List ℕ × ℕ → Pair
pair_of names claim = record { name = place_of names claim.0; value = claim.1 }

-- what is said once one more line was read
abbrev pub said_line : Said → Line → Said
said_line said (setting s) = said_setting said s
said_line said (thread core) = record said { threads = said.threads ++ (record { 0 = core }, []) ∷ [] }
said_line said (load word name) = said_named said (actions.Access (record { 0 = word }) ops.Load) name
said_line said (store word value) = said_step said (actions.Access (record { 0 = word }) (ops.Store value))
said_line said (add word delta name) = said_named said (actions.Access (record { 0 = word }) (ops.Add delta)) name
said_line said (cas word expect new name) =
    said_named said (actions.Access (record { 0 = word }) (ops.Cas expect new)) name
said_line said settle = said_step said actions.Settle
said_line said (evict line) = said_step said (actions.Evict (record { 0 = line }))
said_line said (forbid claims) =
    record said { forbidden = said.forbidden ++ map (pair_of said.names) claims ∷ [] }

-- no thread and no outcome was said
pub record IsEarly (said : Said) : Type 0 where
  pub no_thread : said.threads ≡ []
  pub no_outcome : said.forbidden ≡ []

-- a setting that may come next
abbrev pub MaySet : Said → Setting → Type 0
MaySet said (settings.Config line) = IsEarly said
MaySet said (settings.Rounds n) = IsEarly said × (1 ≤ n) × (n ≤ MOST_ROUNDS)
MaySet said (settings.Movers n) = IsEarly said × (n ≤ MOST_MOVERS)

-- a thread of this core may begin
pub record MayBegin (said : Said) (core : ℕ) : Type 0 where
  pub checked : IsChecked said.settings.config
  pub no_outcome : said.forbidden ≡ []
  pub in_range : core < said.settings.config.cores
  pub first : has_core core said.threads ≡ false

-- a step may come next
pub record MayStep (said : Said) : Type 0 where
  pub begun : 1 ≤ length said.threads
  pub no_outcome : said.forbidden ≡ []
  pub few : last_steps said.threads < MOST_STEPS

-- one on this word
pub record MayAccess (said : Said) (word : ℕ) : Type 0 where
  pub may_step : MayStep said
  pub in_range : word / 8 < said.settings.config.lines

-- the name may be given to a step
pub record MayName (said : Said) (name : List ℕ) : Type 0 where
  pub fresh : has_name name said.names ≡ false
  pub few : length said.names < MOST_NAMES

-- the word may be overwritten
pub record MayOverwrite (said : Said) (word : ℕ) : Type 0 where
  pub no_counter : ¬ Contains said.settings.config.counters (record { 0 = word })

-- outcomes of these replies may be forbidden
pub record MayForbid (said : Said) (claims : List (List ℕ × ℕ)) : Type 0 where
  pub checked : IsChecked said.settings.config
  pub known : list_all (λ (claim : List ℕ × ℕ). has_name claim.0 said.names) claims ≡ true

-- a line that may come next
unfoldable pub MayFollow : Said → Line → Type 0
MayFollow said (setting s) = MaySet said s
MayFollow said (thread core) = MayBegin said core
MayFollow said (load word name) = MayAccess said word × MayName said name
MayFollow said (store word value) = MayAccess said word × MayOverwrite said word
MayFollow said (add word delta name) = MayAccess said word × MayName said name
MayFollow said (cas word expect new name) = MayAccess said word × MayName said name × MayOverwrite said word
MayFollow said settle = MayStep said
MayFollow said (evict line) = MayStep said × (line < said.settings.config.lines)
MayFollow said (forbid claims) = MayForbid said claims

-- after what was said before, the statements, each a number and words, say the whole: each writes a line that may
-- come next
unfoldable pub Says : Version → Said → List (ℕ × List (List ℕ)) → Said → Type 0
Says version said [] whole = said ≡ whole
Says version said (statement ∷ statements) whole =
    (line : Line) × (WritesLine version statement.1 line × MayFollow said line
    × Says version (said_line said line) statements whole)

-- after what was said before, the statements are lines of a litmus test
abbrev pub AreLines : Version → Said → List (ℕ × List (List ℕ)) → Type 0
AreLines version said statements = (whole : Said) × Says version said statements whole

-- The invalid line of a text, by its statements: line 1 if there are none, the first of them if it begins no litmus
-- test, and else the first invalid one after it.
abbrev pub IsFaultAt : List (ℕ × List (List ℕ)) → ℕ → Type 0
IsFaultAt [] number = number ≡ 1
IsFaultAt (first ∷ rest) number =
    ((number ≡ first.0) × IsNoFirstLine first.1)
    ⊎ ((version : Version) × Writes first.1 (parts_of_first version)
    × IsFirstFault (AreLines version said_nothing) rest number)

-- the text is a litmus test that says this: its first line, and the others
pub record IsLitmusTest (text : List ℕ) (whole : Said) : Type 0 where
  pub version : Version
  pub number : ℕ
  pub first : List (List ℕ)
  pub rest : List (ℕ × List (List ℕ))
  pub statements : statements_from 0 (lines text) ≡ (number, first) ∷ rest
  pub begins : Writes first (parts_of_first version)
  pub says : Says version said_nothing rest whole
  pub checked : IsChecked whole.settings.config

-- what a litmus test says
abbrev pub program_of : Thread → CoreId × List Action
program_of program = (program.core, program.steps.items)

abbrev pub reply_of : NamedReply → Reply
reply_of named = record { name = named.name.now; thread = named.thread; step = named.step }

abbrev pub pairs_of : Forbidden → List Pair
pairs_of forbidden = forbidden.pairs.items

unfoldable pub said_by : LitmusTest → Said
said_by test = record {
  settings = record { config = test.config; misses = test.misses };
  rounds = test.rounds;
  movers = test.movers;
  threads = map program_of test.threads.items;
  names = map reply_of test.names.items;
  forbidden = map pairs_of test.forbidden.items;
}
