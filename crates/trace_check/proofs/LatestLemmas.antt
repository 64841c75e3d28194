-- What is kept of a line and a core, as rows are added and changed.
use Rattle.std.proofs.Common.{◌≡◌, ℕ, zero, suc, List, [], ◌∷◌, Option, Some}
use Rattle.std.proofs.Common.{refl}
use Rattle.std.specs.Prelude.{slice_get, Vec}
use Rattle.std.specs.declared.alloc.Global.{Global}
use Rattle.std.proofs.Math.ListN.{set}

set-same : (rows : List (Vec (Option ℕ) Global)) (line : ℕ) (row new : Vec (Option ℕ) Global) →
    slice_get rows line ≡ Some row → slice_get (set rows line new) line ≡ Some new
set-same [] line row new at = cc
set-same (r ∷ rows) zero row new at = refl
set-same (r ∷ rows) (suc line) row new at = set-same rows line row new at
