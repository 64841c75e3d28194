-- What the exports show of a core's miss registers and their targets, by the code that they return.
use Rattle.std.specs.Prelude.{◌≡◌, ℕ, ◌*◌, ◌+◌, ◌%◌, List, length, slice_get, Option}
use Rattle.address_map.specs.Locator.{local_at}
use Rattle.address_map.specs.declared.address.CoreId.{CoreId}
use Rattle.address_map.specs.declared.address.LineAddr.{LineAddr}
use Rattle.address_map.specs.declared.address.SliceId.{SliceId}
use Rattle.cache_table.specs.declared.state.CopyState.{CopyState}
use Rattle.cache_table.specs.declared.state.CopyState.TheVariants as copy_states
use Rattle.litmus_script.specs.Machine.{HasAt}
use Rattle.lockup_c.specs.Calls.{AtMachine, IfNamed, OrNoMemory, SaysFound}
use Rattle.lockup_c.specs.Named.{copy_named, file_named}
use Rattle.lockup_c.specs.Number.{op_number, operand_of, replacement_of}
use Rattle.lockup_c.specs.declared.held.Held.{Held}
use Rattle.lockup_c.specs.declared.structs.RegisterNumbers.{RegisterNumbers}
use Rattle.lockup_c.specs.declared.structs.TargetNumbers.{TargetNumbers}
use Rattle.simulator.specs.Looks.{register_at}
use Rattle.simulator.specs.Simulator.{config_of, slices_of}
use Rattle.simulator.specs.declared.looks.MissRegister.{MissRegister}
use Rattle.simulator.specs.declared.simulator.Simulator.{Simulator}
use Rattle.slice_core.specs.Facts.{targets_at}
use Rattle.slice_core_cache.specs.declared.copy.CacheCopy.{CacheCopy}
use Rattle.target_list.specs.declared.target.Target.{Target}

-- ---- miss registers

-- the request that a copy waits for, as messages are numbered: a GetS, or a GetM
abbrev pub request_number : CopyState → ℕ
request_number copy_states.IS_D = 0
request_number _ = 1

-- how many acknowledgements it needs, or 64 where its data haven't said so yet
abbrev pub needed_in : CopyState → ℕ → ℕ
needed_in copy_states.IM_AD wants = 64
needed_in copy_states.SM_AD wants = 64
needed_in _ wants = wants

abbrev pub needed_number : CacheCopy → ℕ
needed_number copy = needed_in copy.state copy.wants

abbrev pub no_register : RegisterNumbers
no_register = record { line = 0; kind = 0; needed = 0; counted = 0; targets = 0 }

abbrev pub register_numbers : MissRegister → RegisterNumbers
register_numbers register = record {
  line = register.line.0;
  kind = request_number register.copy.state;
  needed = needed_number register.copy;
  counted = register.copy.counted;
  targets = register.targets;
}

pub record IsRegisterAt (named : CoreId × SliceId) (nth code : ℕ) (numbers : RegisterNumbers) (simulator : Simulator) : Type 0 where
  pub found : Option MissRegister
  pub is : HasAt (slices_of simulator) named.1.0 (λ state. found ≡ register_at state.view named.0 nth)
  pub said : SaysFound found register_numbers no_register code numbers

abbrev pub ShowsRegister : ℕ → ℕ → ℕ → ℕ → RegisterNumbers → Option Held → Type 0
ShowsRegister core slice nth code numbers =
    AtMachine
    (λ simulator. IfNamed (file_named (config_of simulator) core slice)
    (λ named. OrNoMemory code (IsRegisterAt named nth code numbers simulator) (numbers ≡ no_register))
    ((code ≡ 2) × (numbers ≡ no_register)))
    ((code ≡ 1) × (numbers ≡ no_register))

-- ---- the accesses that wait for a line

abbrev pub AreTargets : CoreId × LineAddr → List Target → Simulator → Type 0
AreTargets named targets simulator =
    HasAt (slices_of simulator) (named.1.0 % (config_of simulator).slices)
    (λ state. targets ≡ targets_at state.view named.0 (local_at state.view.lines named.1.0))

pub record IsTargetCount (named : CoreId × LineAddr) (count : ℕ) (simulator : Simulator) : Type 0 where
  pub targets : List Target
  pub are : AreTargets named targets simulator
  pub said : count ≡ length targets

abbrev pub ShowsTargets : ℕ → ℕ → ℕ → ℕ → Option Held → Type 0
ShowsTargets core line code count =
    AtMachine
    (λ simulator. IfNamed (copy_named (config_of simulator) core line)
    (λ named. (code ≡ 0) × IsTargetCount named count simulator)
    ((code ≡ 2) × (count ≡ 0)))
    ((code ≡ 1) × (count ≡ 0))

abbrev pub no_target : TargetNumbers
no_target = record { tag = 0; op = 0; word = 0; operand = 0; replacement = 0; seq = 0; since = 0 }

abbrev pub target_numbers : LineAddr → Target → TargetNumbers
target_numbers line target = record {
  tag = target.tag;
  op = op_number target.op;
  word = 8 * line.0 + target.offset.0;
  operand = operand_of target.op;
  replacement = replacement_of target.op;
  seq = target.seq;
  since = target.since;
}

pub record IsTargetAt (named : CoreId × LineAddr) (nth code : ℕ) (numbers : TargetNumbers) (simulator : Simulator) : Type 0 where
  pub targets : List Target
  pub are : AreTargets named targets simulator
  pub said : SaysFound (slice_get targets nth) (target_numbers named.1) no_target code numbers

abbrev pub ShowsTarget : ℕ → ℕ → ℕ → ℕ → TargetNumbers → Option Held → Type 0
ShowsTarget core line nth code numbers =
    AtMachine
    (λ simulator. IfNamed (copy_named (config_of simulator) core line)
    (λ named. IsTargetAt named nth code numbers simulator)
    ((code ≡ 2) × (numbers ≡ no_target)))
    ((code ≡ 1) × (numbers ≡ no_target))
