-- Powers of two: a number with one bit set is one, and a mask takes a remainder by one.
use Rattle.std.proofs.Common.{◌≡◌, ℕ, ◌+◌, ◌-◌, ◌*◌, ◌/◌, ◌%◌, ◌^◌, ◌<◌, ◌≤◌, true, suc, zero, refl, sym, ap, subst}
use Rattle.std.proofs.Common.{◌∙◌, arith, inl, inr, bit_and}
use Rattle.std.specs.Int.{is_power_of_two, IsPowerOfTwo}
use Rattle.std.specs.Int.RustNames.{count_ones}
use Rattle.std.proofs.lemmas.Bool.{eqb-true, cases_eq}
use Rattle.std.proofs.lemmas.Nat.{pow_pos, and_mask, ones_cat, zero_from_ones, pow-add}

-- a number's bits are those of its half and its lowest
ones-halved : (n : ℕ) → count_ones n ≡ count_ones (n / 2) + count_ones (n % 2)
ones-halved n =
    let parts : n ≡ n / 2 * 2 ^ 1 + n % 2 = omega arith in
    ap count_ones parts ∙ ones_cat 1 (n / 2) (n % 2) (omega arith)

no_bit : count_ones 0 ≡ 0
unfolding count_ones
no_bit = refl

one_is : count_ones 1 ≡ 1
unfolding count_ones
one_is = refl

-- a number with one bit set is a power of two
one_bit : (fuel n : ℕ) → n ≤ fuel → count_ones n ≡ 1 → IsPowerOfTwo n
one_bit zero n small ones =
    let none : n ≡ 0 = omega arith in
    absurd (omega (arith, ones, no_bit, ap count_ones none))
one_bit (suc fuel) n small ones =
    elim (cases_eq (n % 2) 0) [
      | inl even ↦
          let half : count_ones (n / 2) ≡ 1 = omega (arith, ones, ones-halved n, no_bit, ap count_ones even) in
          let power = one_bit fuel (n / 2) (omega arith) half in
          (power.0 + 1, omega (arith, power.1, pow-add 2 power.0 1))
      | inr odd ↦
          let last : n % 2 ≡ 1 = omega arith in
          let half : count_ones (n / 2) ≡ 0 = omega (arith, ones, ones-halved n, one_is, ap count_ones last) in
          let none = zero_from_ones (n / 2) half in
          (0, omega arith)
    ]

pub power_from_ones : (n : ℕ) → is_power_of_two n ≡ true → IsPowerOfTwo n
power_from_ones n one = one_bit n n (omega arith) (eqb-true (count_ones n) 1 one)

-- a power of two isn't 0
pub power_some : (n : ℕ) → IsPowerOfTwo n → 0 < n
power_some n power = omega (arith, power.1, pow_pos power.0)

-- a remainder by a power of two is what a mask leaves
pub masked : (n m : ℕ) → IsPowerOfTwo m → bit_and n (m - 1) ≡ n % m
masked n m power = subst (λ p. bit_and n (p - 1) ≡ n % p) (sym power.1) (and_mask n power.0)
