-- What is wrong with a line of a script.
use Rattle.std.specs.Prelude.{◌≡◌, ◌⊎◌, ℕ, List, [], ◌∷◌, Option}
use Rattle.address_map.specs.declared.config.Config.{Config}
use Rattle.litmus_text.specs.Command.{IsFaultOfCommand}
use Rattle.litmus_text.specs.ConfigLine.{IsLateFault}
use Rattle.litmus_text.specs.Field.{IsFieldName}
use Rattle.litmus_text.specs.declared.fault.LineFault.{LineFault}
use Rattle.litmus_text.specs.declared.fault.TextFault.{TextFault}
use Rattle.litmus_text.specs.declared.fault.TextFault.TheVariants as text_faults

-- the words begin as a line that configures
abbrev pub BeginsAsConfig : List (List ℕ) → Type 0
BeginsAsConfig [] = ⊥
BeginsAsConfig (name ∷ words) = IsFieldName name

-- What is wrong with words after the configuration. If they begin as a line that configures it is their form, or else
-- their place; otherwise it is what is wrong with them as a command.
abbrev pub IsFaultBehind : Config → List (List ℕ) → LineFault → Type 0
IsFaultBehind config words fault =
    (BeginsAsConfig words × IsLateFault words fault) ⊎ ((¬ BeginsAsConfig words) × IsFaultOfCommand config words fault)

-- Why the statement of this number isn't played: it has a fault of this kind, and nothing is written for it; or memory
-- ran out; or the output can't be written.
abbrev pub IsNotPlayed : (LineFault → Type 0) → ℕ → Option (List ℕ) → Option (List ℕ) → TextFault → Type 0
IsNotPlayed Wrong number before after (text_faults.Line n fault) = (n ≡ number) × Wrong fault × (after ≡ before)
IsNotPlayed Wrong number before after (text_faults.Config error) = ⊥
IsNotPlayed Wrong number before after text_faults.NoMemory = Unit {0}
IsNotPlayed Wrong number before after text_faults.CannotWrite = Unit {0}
