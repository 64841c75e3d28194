-- What the exports show of the lines that a core waits for, is writing back, or has in a set, by the code that they
-- return.
use Rattle.std.specs.Prelude.{◌≡◌, ℕ, ◌%◌, List, length, slice_get, Option}
use Rattle.address_map.specs.declared.address.CoreId.{CoreId}
use Rattle.address_map.specs.declared.address.LineAddr.{LineAddr}
use Rattle.litmus_script.specs.Machine.{HasAt}
use Rattle.lockup_c.specs.Calls.{AtMachine, IfNamed, OrNoMemory, SaysFound}
use Rattle.lockup_c.specs.Named.{copy_named, file_named}
use Rattle.lockup_c.specs.declared.held.Held.{Held}
use Rattle.simulator.specs.Simulator.{config_of, slices_of}
use Rattle.simulator.specs.declared.simulator.Simulator.{Simulator}
use Rattle.slice_core_exec.specs.CoreLines.{lines_of_core}
use Rattle.slice_core_exec.specs.declared.core_lines.CoreLines.{CoreLines}
use Rattle.slice_core_exec.specs.declared.core_lines.CoreLines.TheVariants as core_lines

-- these lines the core has there, in the slice
abbrev pub AreLines : ℕ → CoreId → CoreLines → List LineAddr → Simulator → Type 0
AreLines slice core which lines simulator =
    HasAt (slices_of simulator) slice (λ state. lines ≡ lines_of_core state.view core which)

pub record IsLineCount (slice : ℕ) (core : CoreId) (which : CoreLines) (count : ℕ) (simulator : Simulator) : Type 0 where
  pub lines : List LineAddr
  pub are : AreLines slice core which lines simulator
  pub said : count ≡ length lines

pub record IsLineAt (slice : ℕ) (core : CoreId) (which : CoreLines) (nth code number : ℕ) (simulator : Simulator) : Type 0 where
  pub lines : List LineAddr
  pub are : AreLines slice core which lines simulator
  pub said : SaysFound (slice_get lines nth) (λ line. line.0) 0 code number

-- ---- those of a slice

abbrev pub CountsLines : CoreLines → ℕ → ℕ → ℕ → ℕ → Option Held → Type 0
CountsLines which core slice code count =
    AtMachine
    (λ simulator. IfNamed (file_named (config_of simulator) core slice)
    (λ named. OrNoMemory code ((code ≡ 0) × IsLineCount named.1.0 named.0 which count simulator) (count ≡ 0))
    ((code ≡ 2) × (count ≡ 0)))
    ((code ≡ 1) × (count ≡ 0))

abbrev pub ShowsLine : CoreLines → ℕ → ℕ → ℕ → ℕ → ℕ → Option Held → Type 0
ShowsLine which core slice nth code number =
    AtMachine
    (λ simulator. IfNamed (file_named (config_of simulator) core slice)
    (λ named. OrNoMemory code (IsLineAt named.1.0 named.0 which nth code number simulator) (number ≡ 0))
    ((code ≡ 2) × (number ≡ 0)))
    ((code ≡ 1) × (number ≡ 0))

-- ---- those in the set of a line

abbrev pub CountsWays : ℕ → ℕ → ℕ → ℕ → Option Held → Type 0
CountsWays core line code count =
    AtMachine
    (λ simulator. IfNamed (copy_named (config_of simulator) core line)
    (λ named. OrNoMemory code ((code ≡ 0) × IsLineCount (named.1.0 % (config_of simulator).slices) named.0
    (core_lines.InSetOf named.1) count simulator) (count ≡ 0))
    ((code ≡ 2) × (count ≡ 0)))
    ((code ≡ 1) × (count ≡ 0))

abbrev pub ShowsWay : ℕ → ℕ → ℕ → ℕ → ℕ → Option Held → Type 0
ShowsWay core line nth code number =
    AtMachine
    (λ simulator. IfNamed (copy_named (config_of simulator) core line)
    (λ named. OrNoMemory code (IsLineAt (named.1.0 % (config_of simulator).slices) named.0 (core_lines.InSetOf named.1)
    nth code number simulator) (number ≡ 0))
    ((code ≡ 2) × (number ≡ 0)))
    ((code ≡ 1) × (number ≡ 0))
