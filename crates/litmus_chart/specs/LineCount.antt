-- The number of lines of a script's machine.
use Rattle.std.specs.Prelude.{◌≡◌, ℕ, List, Option, Some, None}
use Rattle.address_map.specs.Config.{default_config}
use Rattle.litmus_script.specs.Script.{IsReadAs}
use Rattle.litmus_script.specs.declared.script.Script.{Script}

-- .. of an empty script: those of the default machine
abbrev pub lines_of : Option Script → ℕ
lines_of None = default_config.lines
lines_of (Some script) = script.config.lines

pub record IsLineCount (all : List (ℕ × List (List ℕ))) (count : ℕ) : Type 0 where
  pub script : Option Script
  pub read : IsReadAs all script
  pub is : count ≡ lines_of script
