-- What a script says: lines that configure a machine, and then commands, which are played on it one after another.
use Rattle.std.specs.Prelude.{◌≡◌, ◌⊎◌, ℕ, Bool, true, false, List, [], ◌∷◌, ◌++◌, Option, Some, None, Ok, map}
use Rattle.address_map.specs.Config.{checked_of, first_fault}
use Rattle.address_map.specs.declared.config.Config.{Config}
use Rattle.litmus_text.specs.ConfigLine.{after_config_line, parts_of_config_line}
use Rattle.litmus_text.specs.Form.{IsFormFaultOf, Writes}
use Rattle.litmus_text.specs.Settings.{default_settings}
use Rattle.litmus_text.specs.declared.command.Command.{Command}
use Rattle.litmus_text.specs.declared.config_line.ConfigLine.{ConfigLine}
use Rattle.litmus_text.specs.declared.fault.TextFault.{TextFault}
use Rattle.litmus_text.specs.declared.fault.TextFault.TheVariants as text_faults
use Rattle.litmus_text.specs.declared.settings.Settings.{Settings}
use Rattle.litmus_text.specs.declared.statement.Statement.{Statement}
use Rattle.mshr_file.specs.Miss.{Bound}
use Rattle.slice_core_spec.specs.Calls.{PartsView}
use Rattle.litmus_script.specs.Fault.{BeginsAsConfig}
use Rattle.litmus_script.specs.Machine.{IsNewMachine}
use Rattle.mshr_file.specs.Miss.{bound_of}
use Rattle.litmus_script.specs.Play.{PlaysAll, PlaysUpTo}
use Rattle.litmus_script.specs.Prints.{Adds, IsPrinted}
use Rattle.litmus_script.specs.declared.script.Commands.{Commands}
use Rattle.litmus_script.specs.declared.script.Script.{Script}

-- ---- the configuration

-- the words write a line that configures, which turns the old settings into the new ones
pub record TakesLine (words : List (List ℕ)) (old new : Settings) : Type 0 where
  pub line : ConfigLine
  pub written : Writes words (parts_of_config_line line)
  pub makes : new ≡ after_config_line old line

-- the statements, each a number and words, are such lines, one after another
abbrev pub Configures : Settings → List (ℕ × List (List ℕ)) → Settings → Type 0
Configures old [] new = new ≡ old
Configures old (statement ∷ more) new = (mid : Settings) × TakesLine statement.1 old mid × Configures mid more new

-- the first of the statements doesn't begin as a line that configures
abbrev pub BeginOtherwise : List (ℕ × List (List ℕ)) → Type 0
BeginOtherwise [] = Unit {0}
BeginOtherwise (statement ∷ more) = ¬ BeginsAsConfig statement.1

-- the first statements make these settings, and the others remain
pub record IsConfigured (all : List (ℕ × List (List ℕ))) (settings : Settings)
    (left : List (ℕ × List (List ℕ))) : Type 0 where
  pub done : List (ℕ × List (List ℕ))
  pub split : all ≡ done ++ left
  pub configured : Configures default_settings done settings

-- why a line wasn't taken: what is wrong with its words as a line that configures, or memory ran out
abbrev pub IsLineFault : ℕ × List (List ℕ) → TextFault → Type 0
IsLineFault statement (text_faults.Line number fault) =
    (number ≡ statement.0) × IsFormFaultOf parts_of_config_line statement.1 fault
IsLineFault statement (text_faults.Config error) = ⊥
IsLineFault statement text_faults.NoMemory = Unit {0}
IsLineFault statement text_faults.CannotWrite = ⊥

-- the machine has an invalid field
abbrev pub IsRefused : Config → TextFault → Type 0
IsRefused config (text_faults.Config error) = first_fault config ≡ Some error
IsRefused config fault = ⊥

-- What is wrong with the first remaining statement, if it begins as a line that configures; or else with the machine
-- that was configured.
abbrev pub IsConfigFault : Settings → List (ℕ × List (List ℕ)) → TextFault → Type 0
IsConfigFault settings [] fault = IsRefused settings.config fault
IsConfigFault settings (statement ∷ more) fault =
    (BeginsAsConfig statement.1 × IsLineFault statement fault)
    ⊎ ((¬ BeginsAsConfig statement.1) × IsRefused settings.config fault)

-- why no machine was configured
pub record IsNotConfigured (all : List (ℕ × List (List ℕ))) (fault : TextFault) : Type 0 where
  pub settings : Settings
  pub left : List (ℕ × List (List ℕ))
  pub read : IsConfigured all settings left
  pub wrong : IsConfigFault settings left fault

-- ---- what was read

-- a statement's number and its words
abbrev pub said_by : Statement → ℕ × List (List ℕ)
said_by statement = (statement.number, map (λ w. w.now) statement.words.items)

-- the remaining statements; the first may have been read already
abbrev pub left_of : Option Statement → List (ℕ × List (List ℕ)) → List (ℕ × List (List ℕ))
left_of None rest = rest
left_of (Some first) rest = said_by first ∷ rest

-- the statements after the configuration
abbrev pub commands_of : Commands → List (ℕ × List (List ℕ))
commands_of commands = left_of commands.first commands.rest

-- the machine that the first statements configure, up to the first that begins as no line that does, and the commands
-- from there on
pub record IsSetUp (all : List (ℕ × List (List ℕ))) (config : Config) (bound : Bound)
    (commands : List (ℕ × List (List ℕ))) : Type 0 where
  pub settings : Settings
  pub configured : IsConfigured all settings commands
  pub others : BeginOtherwise commands
  pub checked : checked_of settings.config ≡ Ok config
  pub bounded : bound ≡ bound_of settings.misses config

-- the statements are this script
abbrev pub IsScript : List (ℕ × List (List ℕ)) → Script → Type 0
IsScript all script =
    IsSetUp all script.config (bound_of script.misses script.config) (commands_of script.commands)

-- .. or there is none if there are no statements
abbrev pub IsReadAs : List (ℕ × List (List ℕ)) → Option Script → Type 0
IsReadAs all None = all ≡ []
IsReadAs all (Some script) = IsScript all script

-- ---- a run

-- A style of playing: what a command on this line does to the slices of a machine, and the text that it appends.
abbrev pub Playing : Type 1
Playing = Config → List PartsView → List ℕ → Command → Option (List ℕ) → Option (List ℕ) → List PartsView → Type 0

-- the answer is printed
abbrev pub Plainly : Playing
Plainly config old line command before after new = IsPrinted config command old new before after

-- .. after the line if lines are echoed
abbrev pub Echoed : Bool → Playing → Playing
Echoed false plays config old line command before after new = plays config old line command before after new
Echoed true plays config old line command before after new =
    (middle : Option (List ℕ)) × Adds before middle line × plays config old line command middle after new

-- the commands are played on these slices, up to the last
abbrev pub HasPlayed : Playing → Config → List (ℕ × List (List ℕ)) → List PartsView → Option (List ℕ)
    → Option (List ℕ) → Type 0
HasPlayed plays config commands start before after =
    (end : List PartsView) × PlaysAll (plays config) config commands start end before after

-- .. on those of a new machine
pub record IsPlayedOn (plays : Playing) (config : Config) (bound : Bound) (commands : List (ℕ × List (List ℕ)))
    (before after : Option (List ℕ)) : Type 0 where
  pub start : List PartsView
  pub fresh : IsNewMachine config bound start
  pub played : HasPlayed plays config commands start before after

-- .. up to a fault
pub record IsStoppedOn (plays : Playing) (config : Config) (bound : Bound) (commands : List (ℕ × List (List ℕ)))
    (before after : Option (List ℕ)) (fault : TextFault) : Type 0 where
  pub start : List PartsView
  pub fresh : IsNewMachine config bound start
  pub stopped : PlaysUpTo (plays config) config commands start before after fault

-- .. or memory ran out for a new machine
abbrev pub IsPlayedUpTo : Playing → Config → Bound → List (ℕ × List (List ℕ)) → Option (List ℕ)
    → Option (List ℕ) → TextFault → Type 0
IsPlayedUpTo plays config bound commands before after fault =
    ((fault ≡ text_faults.NoMemory) × (after ≡ before)) ⊎ IsStoppedOn plays config bound commands before after fault

-- A script is run: what its commands print is written, in order. An empty script writes nothing.
abbrev pub IsRun : Playing → List (ℕ × List (List ℕ)) → Option (List ℕ) → Option (List ℕ) → Type 0
IsRun plays all before after =
    ((all ≡ []) × (after ≡ before))
    ⊎ ((config : Config) × (bound : Bound) × (commands : List (ℕ × List (List ℕ)))
    × IsSetUp all config bound commands × IsPlayedOn plays config bound commands before after)

-- A fault ends the run of a script: before the first command, with nothing written; or at a command, with the answers
-- of those before it written.
abbrev pub IsRunUpTo : Playing → List (ℕ × List (List ℕ)) → Option (List ℕ) → Option (List ℕ) → TextFault → Type 0
IsRunUpTo plays all before after fault =
    (IsNotConfigured all fault × (after ≡ before))
    ⊎ ((config : Config) × (bound : Bound) × (commands : List (ℕ × List (List ℕ)))
    × IsSetUp all config bound commands × IsPlayedUpTo plays config bound commands before after fault)
