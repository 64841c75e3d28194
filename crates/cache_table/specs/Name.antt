-- The names under which the table has the states.
use Rattle.std.specs.Prelude.{ℕ, List, codes}
use Rattle.cache_table.specs.declared.state.CopyState.{CopyState}
use Rattle.cache_table.specs.declared.state.CopyState.TheVariants as copy_states

abbrev pub name_of : CopyState → List ℕ
name_of copy_states.I = codes "I"
name_of copy_states.IS_D = codes "IS_D"
name_of copy_states.IM_AD = codes "IM_AD"
name_of copy_states.IM_A = codes "IM_A"
name_of copy_states.S = codes "S"
name_of copy_states.SM_AD = codes "SM_AD"
name_of copy_states.SM_A = codes "SM_A"
name_of copy_states.M = codes "M"
name_of copy_states.E = codes "E"
name_of copy_states.MI_A = codes "MI_A"
name_of copy_states.SI_A = codes "SI_A"
name_of copy_states.II_A = codes "II_A"
