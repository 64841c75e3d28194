-- The step of a loop that adds a piece for each place, or for each item of a list.
use Rattle.std.proofs.Common.{arith, ◌≡◌, ℕ, ◌+◌, ◌-◌, ◌<◌, suc, List, ◌++◌, append_assoc}
use Rattle.std.specs.List.{flat_map, range_with_len}

-- the places from i on are i, and then those from i + 1 on
places_from : (i n : ℕ) → i < n → range_with_len i (n - i) ≡ range_with_len i (suc (n - (i + 1)))
places_from i n below = let left : n - i ≡ suc (n - (i + 1)) = omega arith in rw left

-- one piece more, and the places after it
pub next_place : {X : Type 0} (piece : ℕ → List X) (old new all : List X) (i n : ℕ) → i < n
    → old ++ flat_map piece (range_with_len i (n - i)) ≡ all → new ≡ old ++ piece i
    → new ++ flat_map piece (range_with_len (i + 1) (n - (i + 1))) ≡ all
next_place piece old new all i n below before is =
    rw (is, append_assoc) (rw (places_from i n below) at before)
