-- The names under which the table has the states.
use Rattle.std.specs.Prelude.{ℕ, List, codes}
use Rattle.directory_table.specs.declared.state.DirState.{DirState}
use Rattle.directory_table.specs.declared.state.DirState.TheVariants as dir_states

abbrev pub name_of : DirState → List ℕ
name_of dir_states.I = codes "I"
name_of dir_states.S = codes "S"
name_of dir_states.M = codes "M"
name_of dir_states.S_D = codes "S_D"
