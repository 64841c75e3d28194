-- How often the steps of a script met each cell.
use Rattle.std.specs.Prelude.{◌≡◌, ◌⊎◌, ℕ, List, [], Option, Some, None, map}
use Rattle.address_map.specs.declared.config.Config.{Config}
use Rattle.litmus_script.specs.Play.{IsOfRun}
use Rattle.litmus_script.specs.Script.{IsPlayedOn, IsRunUpTo, IsSetUp}
use Rattle.litmus_text.specs.declared.fault.TextFault.{TextFault}
use Rattle.mshr_file.specs.Miss.{Bound}
use Rattle.script_coverage.specs.Counts.{counted_all, listed}
use Rattle.script_coverage.specs.Trail.{Notingly}
use Rattle.script_coverage.specs.declared.cells.TheConstants.{CELLS}

-- The commands are played on a new machine, and these are the counts of the cells that the steps met: each that can be met
-- under the machine's setting is listed.
pub record IsCountedOn (config : Config) (bound : Bound) (commands : List (ℕ × List (List ℕ)))
    (counts : List (Option ℕ)) : Type 0 where
  pub numbers : List ℕ
  pub played : IsPlayedOn Notingly config bound commands (Some []) (Some numbers)
  pub counted : counts ≡ counted_all (map (listed (Some config.exclusive)) CELLS) numbers

-- the counts of a script; of an empty one, no cell is listed
abbrev pub IsCoverage : List (ℕ × List (List ℕ)) → List (Option ℕ) → Type 0
IsCoverage all counts =
    ((all ≡ []) × (counts ≡ map (listed None) CELLS))
    ⊎ ((config : Config) × (bound : Bound) × (commands : List (ℕ × List (List ℕ)))
    × IsSetUp all config bound commands × IsCountedOn config bound commands counts)

-- why there are none: there was no memory, or the output couldn't be written, or the run stops at a fault of the script
abbrev pub IsNotCovered : List (ℕ × List (List ℕ)) → TextFault → Type 0
IsNotCovered all fault =
    IsOfRun fault ⊎ ((after : Option (List ℕ)) × IsRunUpTo Notingly all (Some []) after fault)
