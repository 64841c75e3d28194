-- What a simulator has, and what it is built from.
use Rattle.std.specs.Prelude.{◌≡◌, List, Ok, Err}
use Rattle.address_map.specs.Config.{checked_of}
use Rattle.address_map.specs.declared.config.Config.{Config}
use Rattle.litmus_script.specs.Machine.{IsNewMachine}
use Rattle.mshr_file.specs.Miss.{bound_of}
use Rattle.litmus_text.specs.declared.fault.TextFault.{TextFault}
use Rattle.litmus_text.specs.declared.fault.TextFault.TheVariants as text_faults
use Rattle.litmus_text.specs.declared.settings.Settings.{Settings}
use Rattle.slice_core_spec.specs.Calls.{PartsView}
use Rattle.simulator.specs.declared.simulator.Simulator.{Simulator}

-- the shape of the machine
abbrev pub config_of : Simulator → Config
config_of simulator = simulator.machine.config

-- what each slice has, in order
abbrev pub slices_of : Simulator → List PartsView
slices_of simulator = simulator.machine.slices.items

-- a new machine of these settings, which are allowed
pub record IsNewSimulator (settings : Settings) (simulator : Simulator) : Type 0 where
  pub allowed : checked_of settings.config ≡ Ok (config_of simulator)
  pub fresh : IsNewMachine (config_of simulator) (bound_of settings.misses (config_of simulator)) (slices_of simulator)

-- the same machine once more
abbrev pub IsCopyOf : Simulator → Simulator → Type 0
IsCopyOf simulator copy = (config_of copy ≡ config_of simulator) × (slices_of copy ≡ slices_of simulator)

-- why there is none: a field isn't allowed, or an allocation failed
abbrev pub IsNotBuilt : Config → TextFault → Type 0
IsNotBuilt config (text_faults.Config error) = checked_of config ≡ Err error
IsNotBuilt config text_faults.NoMemory = Unit {0}
IsNotBuilt config text_faults.CannotWrite = ⊥
IsNotBuilt config (text_faults.Line number fault) = ⊥
