-- How the lines that configure a machine are written, and what they set.
use Rattle.std.specs.Prelude.{◌≡◌, ◌⊎◌, ℕ, Bool, true, false, List, [], ◌∷◌, ◌++◌, codes}
use Rattle.address_map.specs.declared.config.Config.{Config}
use Rattle.address_map.specs.declared.config.PolicyKind.{PolicyKind}
use Rattle.address_map.specs.declared.config.PolicyKind.TheVariants as policy_kinds
use Rattle.litmus_text.specs.declared.policy.PolicyName.{PolicyName}
use Rattle.litmus_text.specs.declared.policy.PolicyName.TheVariants as policy_names
use Rattle.mshr_file.specs.declared.kind.MissKind.{MissKind}
use Rattle.mshr_file.specs.declared.kind.MissKind.TheVariants as miss_kinds
use Rattle.litmus_text.specs.declared.settings.Settings.{Settings}
use Rattle.litmus_text.specs.declared.config_line.ConfigLine.{ConfigLine}
use Rattle.litmus_text.specs.declared.config_line.ConfigLine.TheVariants as config_lines
use Rattle.litmus_text.specs.declared.fault.LineFault.{LineFault}
use Rattle.litmus_text.specs.declared.fault.LineFault.TheVariants as line_faults
use Rattle.litmus_text.specs.declared.field.Field.TheVariants as fields
use Rattle.litmus_text.specs.Field.{name_of, with_count}
use Rattle.litmus_text.specs.Form.{Part, key, num, Writes, IsFormFaultOf}

-- the name of a replacement policy
abbrev pub name_of_policy : PolicyName → List ℕ
name_of_policy policy_names.Lru = codes "lru"
name_of_policy policy_names.Fifo = codes "fifo"
name_of_policy policy_names.Random = codes "random"

-- how it is written
abbrev pub parts_of_policy : PolicyKind → List Part
parts_of_policy policy_kinds.Lru = key (codes "lru") ∷ []
parts_of_policy policy_kinds.Fifo = key (codes "fifo") ∷ []
parts_of_policy (policy_kinds.Random seed) = key (codes "random") ∷ num seed ∷ []

-- the name of the miss registers
abbrev pub name_of_misses : MissKind → List ℕ
name_of_misses miss_kinds.Explicit = codes "explicit"
name_of_misses miss_kinds.Inverted = codes "inverted"

abbrev pub parts_of_misses : MissKind → List Part
parts_of_misses kind = key (name_of_misses kind) ∷ []

-- how a setting, on or off, is written
abbrev pub name_of_setting : Bool → List ℕ
name_of_setting true = codes "on"
name_of_setting false = codes "off"

abbrev pub parts_of_setting : Bool → List Part
parts_of_setting is_on = key (name_of_setting is_on) ∷ []

-- each line begins with the name of its field
abbrev pub parts_of_config_line : ConfigLine → List Part
parts_of_config_line (config_lines.Count count n) = key (name_of (fields.Count count)) ∷ num n ∷ []
parts_of_config_line (config_lines.Policy policy) = key (name_of fields.Policy) ∷ parts_of_policy policy
parts_of_config_line (config_lines.Misses kind) = key (name_of fields.Misses) ∷ parts_of_misses kind
parts_of_config_line (config_lines.Exclusive is_on) = key (name_of fields.Exclusive) ∷ parts_of_setting is_on
parts_of_config_line (config_lines.Init word value) = key (name_of fields.Init) ∷ num word.0 ∷ num value ∷ []
parts_of_config_line (config_lines.Counter word) = key (name_of fields.Counter) ∷ num word.0 ∷ []

-- what is wrong with words that begin as such a line, after the configuration: their form, or else their place
abbrev pub IsLateFault : List (List ℕ) → LineFault → Type 0
IsLateFault words fault =
    IsFormFaultOf parts_of_config_line words fault
    ⊎ ((line : ConfigLine) × (Writes words (parts_of_config_line line) × (fault ≡ line_faults.LateConfiguration)))

-- the configuration with what the line sets: initial values and counters add up
abbrev pub with_line : Config → ConfigLine → Config
with_line config (config_lines.Count count n) = with_count config count n
with_line config (config_lines.Policy policy) = record config { policy = policy }
with_line config (config_lines.Misses kind) = config
with_line config (config_lines.Exclusive is_on) = record config { exclusive = is_on }
with_line config (config_lines.Init word value) = record config { init = config.init ++ (word, value) ∷ [] }
with_line config (config_lines.Counter word) = record config { counters = config.counters ++ word ∷ [] }

-- the settings after the line
abbrev pub after_config_line : Settings → ConfigLine → Settings
after_config_line settings (config_lines.Misses kind) = record settings { misses = kind }
after_config_line settings line = record settings { config = with_line settings.config line }
