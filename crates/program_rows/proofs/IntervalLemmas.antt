-- Numbers that are rounded up.
use Rattle.std.proofs.Common.{◌≡◌, ℕ, ◌+◌, ◌*◌, ◌-◌, ◌/◌, ◌%◌, ◌<◌, ◌≤◌, ap, sym, subst, arith}
use Rattle.std.proofs.Math.Nat.{mul-le-mul_right, le_of_mul-le-mul_right, div-add-mod', le_trans, lt_of_mul-lt-mul_right}
use Rattle.std.proofs.lemmas.Grind.{div_ceil_times}
use Rattle.std.specs.Int.{div_ceil}
use Rattle.program_rows.specs.Figures.{IsHalfWidth, IsLeastRoot, IsRoundedUp, square}

-- a product is what its factor makes of the quotient, and of the remainder
pub product_split : (f n d : ℕ) → f * n ≡ f * (n / d) * d + f * (n % d)
product_split f n d = grind (arith, div-add-mod' n d)

-- what is rounded up after a whole multiple of the divisor is rounded up with it
pub rounded_up_behind : (whole rest d p : ℕ) → 0 < d → IsRoundedUp rest d p → IsRoundedUp (whole * d + rest) d (whole + p)
rounded_up_behind whole rest d p pos h = (
  grind (arith, h.0),
  λ v le. let above : whole ≤ v = le_of_mul-le-mul_right (omega arith) pos in
      let sum : whole + (v - whole) ≡ v = omega arith in
      let left : rest ≤ (v - whole) * d = omega (arith, ap (λ (n : ℕ). n * d) sum) in
      omega (arith, h.1 (v - whole) left, above),
)

-- a quotient is rounded up
pub div_ceil_rounds_up : (n d : ℕ) → 0 < d → IsRoundedUp n d (div_ceil n d)
div_ceil_rounds_up n d pos =
    let h = div_ceil_times n d pos in (
      h.0,
      λ v le. let lt : div_ceil n d * d < (v + 1) * d = grind (arith, h.1, le) in
          omega (arith, lt_of_mul-lt-mul_right d lt),
    )

-- a product that is divided before it is multiplied
pub rounded_up_in_two : (f n d : ℕ) → 0 < d → IsRoundedUp (f * n) d (f * (n / d) + div_ceil (f * (n % d)) d)
rounded_up_in_two f n d pos =
    subst (λ (p : ℕ). IsRoundedUp p d (f * (n / d) + div_ceil (f * (n % d)) d)) (sym (product_split f n d))
    (rounded_up_behind (f * (n / d)) (f * (n % d)) d (div_ceil (f * (n % d)) d) pos (div_ceil_rounds_up (f * (n % d)) d pos))

-- the least root of a number that is rounded up is that of the quotient
pub half_width_is_least_root : (count spread t factor divisor c w : ℕ) → factor ≡ square t → divisor ≡ square count * (count - 1) → IsRoundedUp (factor * spread) divisor c → IsLeastRoot c w → IsHalfWidth count spread t w
half_width_is_least_root count spread t factor divisor c w f d up root =
    subst (λ (n : ℕ). (n * spread ≤ square w * (square count * (count - 1))) × ((v : ℕ) → n * spread ≤ square v * (square count * (count - 1)) → w ≤ v)) f
    (subst (λ (m : ℕ). (factor * spread ≤ square w * m) × ((v : ℕ) → factor * spread ≤ square v * m → w ≤ v)) d (
      le_trans up.0 (mul-le-mul_right divisor root.0),
      λ v le. root.1 v (up.1 (square v) le),
    ))
