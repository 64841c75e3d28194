-- The first words of accesses.
use Rattle.std.specs.Prelude.{ℕ, List, codes}
use Rattle.litmus_text.specs.declared.parse.Access.{Access}
use Rattle.litmus_text.specs.declared.parse.Access.TheVariants as accesses

abbrev pub name_of_access : Access → List ℕ
name_of_access accesses.Load = codes "load"
name_of_access accesses.Store = codes "store"
name_of_access accesses.Add = codes "add"
name_of_access accesses.Cas = codes "cas"
