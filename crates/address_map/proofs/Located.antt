-- A line's place among those of its slice, and back, by a shift and a mask.
use Rattle.std.proofs.Common.{◌≡◌, ℕ, ◌^◌, ◌≤◌, ◌⊎◌, inl, inr, refl, lit≤}
use Rattle.std.specs.Int.Count.{count_trailing_zeros}

-- 1, 2 and 4 are powers of 2.
pub few-power : (slices : ℕ) → (slices ≡ 1) ⊎ (slices ≡ 2) ⊎ (slices ≡ 4)
    → (count_trailing_zeros 64 slices ≤ 2) × (2 ^ count_trailing_zeros 64 slices ≡ slices)
unfolding count_trailing_zeros
few-power slices (inl one) = rw one (lit≤ tt, refl)
few-power slices (inr (inl two)) = rw two (lit≤ tt, refl)
few-power slices (inr (inr four)) = rw four (lit≤ tt, refl)
