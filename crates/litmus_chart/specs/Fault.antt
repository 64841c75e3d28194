-- Why a chart ends before its script does.
use Rattle.std.specs.Prelude.{◌⊎◌, ℕ, List, Option}
use Rattle.address_map.specs.declared.config.Config.{Config}
use Rattle.litmus_script.specs.Play.{IsOfRun, PlaysUpTo}
use Rattle.litmus_script.specs.Script.{IsNotConfigured, IsSetUp}
use Rattle.litmus_text.specs.declared.command.Command.{Command}
use Rattle.litmus_text.specs.declared.fault.TextFault.{TextFault}
use Rattle.mshr_file.specs.Miss.{Bound}

-- a command on a line is drawn: what is drawn of it isn't specified
abbrev pub Draws : Unit {0} → List ℕ → Command → Option (List ℕ) → Option (List ℕ) → Unit {0} → Type 0
Draws old line command before after new = Unit {0}

-- the commands are drawn up to one that can't be
pub record ChartStopsAt (config : Config) (commands : List (ℕ × List (List ℕ))) (fault : TextFault) : Type 0 where
  pub before : Option (List ℕ)
  pub after : Option (List ℕ)
  pub stopped : PlaysUpTo Draws config commands tt before after fault

-- as in scripts, or the chart couldn't be written
abbrev pub IsChartFault : List (ℕ × List (List ℕ)) → TextFault → Type 0
IsChartFault all fault =
    IsNotConfigured all fault ⊎ IsOfRun fault
    ⊎ ((config : Config) × (bound : Bound) × (commands : List (ℕ × List (List ℕ)))
    × IsSetUp all config bound commands × ChartStopsAt config commands fault)
