-- Cores that take replies, one after the other and in turns: they make nothing.
use Rattle.std.proofs.Common.{ℕ, zero, suc, ◌<◌, List, [], ◌∷◌, length, get_or, set, arith}
use Rattle.address_map.specs.declared.config.Config.{Config}
use Rattle.core_thread_system.proofs.Made.{made-nothing, still-nothing}
use Rattle.core_thread_system.specs.Core.{CoreView}
use Rattle.core_thread_system.specs.Program.{HasMade}
use Rattle.drain.specs.Drained.{HaveMadeNothing}

pub same-cores : (c : Config) (cores : List CoreView) → HaveMadeNothing c cores cores
same-cores c [] = tt
same-cores c (v ∷ cores) = (made-nothing c v, same-cores c cores)

pub cores-then : (c : Config) (us vs ws : List CoreView) → HaveMadeNothing c us vs → HaveMadeNothing c vs ws
    → HaveMadeNothing c us ws
cores-then c [] [] [] first later = tt
cores-then c [] [] (w ∷ ws) first later = later
cores-then c [] (v ∷ vs) ws first later = absurd first
cores-then c (u ∷ us) [] ws first later = absurd first
cores-then c (u ∷ us) (v ∷ vs) [] first later = later
cores-then c (u ∷ us) (v ∷ vs) (w ∷ ws) first later =
    (still-nothing c u v w first.0 later.0, cores-then c us vs ws first.1 later.1)

-- one core of several
pub one-core : (c : Config) (cores : List CoreView) (place : ℕ) (none new : CoreView) → place < length cores
    → HasMade c (get_or cores place none) [] new → HaveMadeNothing c cores (set cores place new)
one-core c [] place none new within one = absurd (omega (arith, within))
one-core c (u ∷ cores) zero none new within one = (one, same-cores c cores)
one-core c (u ∷ cores) (suc place) none new within one =
    (made-nothing c u, one-core c cores place none new (omega (arith, within)) one)
