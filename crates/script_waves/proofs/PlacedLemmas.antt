-- Lines that were named.
use Rattle.std.proofs.Common.{Bool, true, false, List, All}
use Rattle.std.specs.Prelude.{if◌then◌else◌}

-- what holds of each element of two lists holds of each of the one that is chosen
pub all_if : {X : Type 0} (P : X → Type 0) (b : Bool) (xs ys : List X) → All P xs → All P ys
    → All P (if b then xs else ys)
all_if P true xs ys first second = first
all_if P false xs ys first second = second
