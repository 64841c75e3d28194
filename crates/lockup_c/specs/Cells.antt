-- The numbers of the cells of the tables that calls would meet.
use Rattle.std.specs.Prelude.{◌≡◌, ℕ, Option, option_map, unwrap_or}
use Rattle.address_map.specs.declared.config.Config.{Config}
use Rattle.litmus_text.specs.declared.command.Command.{Command}
use Rattle.litmus_text.specs.declared.command.Command.TheVariants as commands
use Rattle.lockup_c.specs.Calls.{AtMachine, IfNamed}
use Rattle.lockup_c.specs.Named.{copy_named, pick_named, request_named}
use Rattle.lockup_c.specs.declared.cells.Asked.{Asked}
use Rattle.lockup_c.specs.declared.cells.Asked.TheVariants as askeds
use Rattle.lockup_c.specs.declared.held.Held.{Held}
use Rattle.script_coverage.specs.Trail.{IsNumberOf}
use Rattle.script_coverage.specs.declared.table_cell.Cell.{Cell}
use Rattle.simulator.specs.Cells.{MeetsCell}
use Rattle.simulator.specs.Simulator.{config_of, slices_of}
use Rattle.simulator.specs.declared.simulator.Simulator.{Simulator}

-- the command that the numbers of a call name
abbrev pub command_named : Config → Asked → Option Command
command_named config (askeds.Issue core tag op word operand replacement) =
    option_map (λ named. commands.Issue named.0 named.1) (request_named config core tag op word operand replacement)
command_named config (askeds.Evict core line) =
    option_map (λ named. commands.Evict named.0 named.1) (copy_named config core line)
command_named config (askeds.Deliver channel line core from) =
    option_map commands.Deliver (pick_named config channel line core from)

-- the number of cells, where there is none
abbrev pub no_cell : ℕ
no_cell = 94

-- the command would meet the cell of this number, or none
pub record IsCellMet (command : Command) (shown : ℕ) (simulator : Simulator) : Type 0 where
  pub cell : Option Cell
  pub met : MeetsCell (config_of simulator) (slices_of simulator) command cell
  pub number : Option ℕ
  pub numbered : IsNumberOf cell number
  pub said : shown ≡ unwrap_or number no_cell

abbrev pub ShowsCell : Asked → ℕ → ℕ → Option Held → Type 0
ShowsCell asked code shown =
    AtMachine
    (λ simulator. IfNamed (command_named (config_of simulator) asked)
    (λ command. (code ≡ 0) × IsCellMet command shown simulator)
    ((code ≡ 2) × (shown ≡ no_cell)))
    ((code ≡ 1) × (shown ≡ no_cell))
