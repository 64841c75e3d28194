-- The numbers that `lockup.h` gives to names.
use Rattle.std.specs.Prelude.{ℕ, Bool, true, false, Option, Some, None}
use Rattle.address_map.specs.declared.address.CoreId.{CoreId}
use Rattle.address_map.specs.declared.config.ConfigError.{ConfigError}
use Rattle.address_map.specs.declared.config.ConfigError.TheVariants as config_errors
use Rattle.address_map.specs.declared.request.Op.{Op}
use Rattle.address_map.specs.declared.request.Op.TheVariants as ops
use Rattle.cache_table.specs.declared.state.CopyState.{CopyState}
use Rattle.cache_table.specs.declared.state.CopyState.TheVariants as copy_states
use Rattle.directory_table.specs.declared.state.DirState.{DirState}
use Rattle.directory_table.specs.declared.state.DirState.TheVariants as dir_states
use Rattle.litmus_text.specs.declared.fault.TextFault.{TextFault}
use Rattle.litmus_text.specs.declared.fault.TextFault.TheVariants as text_faults
use Rattle.slice_answer.specs.declared.answer.Cell.{Cell}
use Rattle.slice_answer.specs.declared.answer.Cell.TheVariants as cells
use Rattle.slice_answer.specs.declared.answer.Delivered.{Delivered}
use Rattle.slice_answer.specs.declared.answer.Delivered.TheVariants as delivered
use Rattle.slice_answer.specs.declared.answer.Evicted.{Evicted}
use Rattle.slice_answer.specs.declared.answer.Evicted.TheVariants as evicted
use Rattle.slice_answer.specs.declared.answer.Refused.{Refused}
use Rattle.slice_answer.specs.declared.answer.Refused.TheVariants as refusals
use Rattle.slice_answer.specs.declared.answer.Stall.{Stall}
use Rattle.slice_answer.specs.declared.answer.Stall.TheVariants as stalls
use Rattle.slice_queues.specs.declared.channel.Pick.{Pick}
use Rattle.slice_queues.specs.declared.channel.Pick.TheVariants as picks

-- the reasons of a stall and of a refusal are those that a script prints
abbrev pub stall_number : Stall → ℕ
stall_number stalls.NoRegister = 1
stall_number stalls.NoTarget = 2
stall_number stalls.NoWay = 3
stall_number stalls.WriteBackFull = 4
stall_number stalls.WriteBackBusy = 5

abbrev pub refusal_number : Refused → ℕ
refusal_number refusals.OutOfRange = 1
refusal_number refusals.TagRange = 2
refusal_number refusals.TagBusy = 3
refusal_number refusals.CounterStore = 4
refusal_number refusals.Memory = 5
refusal_number refusals.WrongSlice = 6
refusal_number (refusals.Ahead entries) = 8

abbrev pub evicted_number : Evicted → ℕ
evicted_number evicted.Evicting = 0
evicted_number evicted.NotHeld = 1
evicted_number evicted.Busy = 2
evicted_number evicted.WriteBackFull = 3

abbrev pub cell_number : Cell → ℕ
cell_number cells.Entry = 3
cell_number cells.Full = 4
cell_number cells.Early = 5

abbrev pub delivered_number : Delivered → ℕ
delivered_number delivered.Moved = 0
delivered_number delivered.Blocked = 1
delivered_number delivered.Nothing = 2
delivered_number (delivered.Broken cell) = cell_number cell

abbrev pub copy_number : CopyState → ℕ
copy_number copy_states.I = 0
copy_number copy_states.IS_D = 1
copy_number copy_states.IM_AD = 2
copy_number copy_states.IM_A = 3
copy_number copy_states.S = 4
copy_number copy_states.SM_AD = 5
copy_number copy_states.SM_A = 6
copy_number copy_states.M = 7
copy_number copy_states.MI_A = 8
copy_number copy_states.SI_A = 9
copy_number copy_states.II_A = 10
copy_number copy_states.E = 11

abbrev pub dir_number : DirState → ℕ
dir_number dir_states.I = 0
dir_number dir_states.S = 1
dir_number dir_states.M = 2
dir_number dir_states.S_D = 3

-- a core, or 64 where there is none
abbrev pub core_number : Option CoreId → ℕ
core_number None = 64
core_number (Some core) = core.0

abbrev pub op_number : Op → ℕ
op_number ops.Load = 0
op_number (ops.Store value) = 1
op_number (ops.Add delta) = 2
op_number (ops.Cas expect new) = 3

abbrev pub operand_of : Op → ℕ
operand_of ops.Load = 0
operand_of (ops.Store value) = value
operand_of (ops.Add delta) = delta
operand_of (ops.Cas expect new) = expect

abbrev pub replacement_of : Op → ℕ
replacement_of ops.Load = 0
replacement_of (ops.Store value) = 0
replacement_of (ops.Add delta) = 0
replacement_of (ops.Cas expect new) = new

-- a channel's number, and the cores that it names
abbrev pub channel_number : Pick → ℕ
channel_number (picks.Req line core) = 0
channel_number (picks.Fwd line core) = 1
channel_number (picks.Data line core) = 2
channel_number (picks.Ack line to from) = 3
channel_number (picks.Home line) = 4

abbrev pub core_of_pick : Pick → ℕ
core_of_pick (picks.Req line core) = core.0
core_of_pick (picks.Fwd line core) = core.0
core_of_pick (picks.Data line core) = core.0
core_of_pick (picks.Ack line to from) = to.0
core_of_pick (picks.Home line) = 0

abbrev pub sender_of_pick : Pick → ℕ
sender_of_pick (picks.Ack line to from) = from.0
sender_of_pick pick = 0

-- the first field at fault of a configuration
abbrev pub config_code : ConfigError → ℕ
config_code config_errors.Cores = 101
config_code config_errors.Slices = 102
config_code config_errors.Lines = 103
config_code config_errors.Sets = 104
config_code config_errors.Ways = 105
config_code config_errors.Mshrs = 106
config_code config_errors.Targets = 107
config_code config_errors.Writebacks = 108
config_code config_errors.Init = 109
config_code config_errors.Counters = 110

abbrev pub fault_code : TextFault → ℕ
fault_code (text_faults.Config error) = config_code error
fault_code _ = 3

abbrev pub flag : Bool → ℕ
flag false = 0
flag true = 1
