-- Numbers of a table's lines and columns: two cells are the same where their numbers are.
use Rattle.std.specs.Prelude.{ℕ, ◌+◌, true, false}
use Rattle.cache_table.specs.declared.state.CopyState.{CopyState}
use Rattle.cache_table.specs.declared.state.CopyState.TheVariants as copy_states
use Rattle.protocol_tables.specs.declared.cache_rows.CacheCase.{CacheCase}
use Rattle.protocol_tables.specs.declared.cache_rows.CacheCase.TheVariants as cases
use Rattle.protocol_tables.specs.declared.cache_rows.Counted.TheVariants as counted
use Rattle.protocol_tables.specs.declared.directory_rows.DirCase.{DirCase}
use Rattle.protocol_tables.specs.declared.directory_rows.DirCase.TheVariants as dir_cases
use Rattle.protocol_tables.specs.declared.directory_rows.Entry.{Entry}
use Rattle.protocol_tables.specs.declared.directory_rows.Entry.TheVariants as entries
use Rattle.protocol_tables.specs.declared.directory_rows.Sharing.{Sharing}
use Rattle.protocol_tables.specs.declared.directory_rows.Sharing.TheVariants as sharing

abbrev pub state_number : CopyState → ℕ
state_number copy_states.I = 0
state_number copy_states.IS_D = 1
state_number copy_states.IM_AD = 2
state_number copy_states.IM_A = 3
state_number copy_states.S = 4
state_number copy_states.SM_AD = 5
state_number copy_states.SM_A = 6
state_number copy_states.M = 7
state_number copy_states.MI_A = 8
state_number copy_states.SI_A = 9
state_number copy_states.II_A = 10
state_number copy_states.E = 11

abbrev pub case_number : CacheCase → ℕ
case_number cases.Load = 0
case_number cases.Write = 1
case_number cases.Eviction = 2
case_number cases.FwdGetS = 3
case_number cases.FwdGetM = 4
case_number cases.Inv = 5
case_number cases.PutAck = 6
case_number (cases.Data counted.Equal) = 7
case_number (cases.Data counted.Less) = 8
case_number (cases.Data counted.More) = 9
case_number (cases.InvAck counted.Equal) = 10
case_number (cases.InvAck counted.Less) = 11
case_number (cases.InvAck counted.More) = 12
case_number (cases.DataE true) = 13
case_number (cases.DataE false) = 14

abbrev pub sharing_number : Sharing → ℕ
sharing_number sharing.Nobody = 0
sharing_number sharing.Asker = 1
sharing_number sharing.Others = 2
sharing_number sharing.Both = 3

abbrev pub entry_number : Entry → ℕ
entry_number entries.I = 0
entry_number entries.MOfAsker = 1
entry_number entries.MOfAnother = 2
entry_number (entries.S seen) = 3 + sharing_number seen
entry_number (entries.S_D seen) = 7 + sharing_number seen

abbrev pub dir_case_number : DirCase → ℕ
dir_case_number dir_cases.GetS = 0
dir_case_number dir_cases.GetM = 1
dir_case_number dir_cases.PutS = 2
dir_case_number dir_cases.PutM = 3
dir_case_number dir_cases.DataHome = 4
