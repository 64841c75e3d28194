-- What `position` returns, and that a search of bytes returns the same.
use Rattle.std.proofs.Common.{◌≡◌, ℕ, ◌<◌, ◌≤◌, Bool, true, false, cond, ltb, List, length, get_or, Option, Some, None}
use Rattle.std.proofs.Common.{inl, inr, arith}
use Rattle.std.proofs.lemmas.Bool.Decides.{nat_tests}
use Rattle.std.proofs.lemmas.Bool.{cases_Bool}
use Rattle.std.proofs.lemmas.List.Sums.{position_or_len_is}
use Rattle.std.specs.List.{position, position_or_len}
use Rattle.memchr.specs.Find.{IsFirstByte}

-- the place of the first element that passes, where there is one
pub found_at : (k n i : ℕ) → cond (ltb k n) (Some k) None ≡ Some i → (k < n) × (k ≡ i)
found_at k n i e = grind (arith, nat_tests)

pub found_nowhere : (k n : ℕ) → cond (ltb k n) (Some k) None ≡ None → n ≤ k
found_nowhere k n e = grind (arith, nat_tests)

fails : (b : Bool) → (b ≡ true → ⊥) → b ≡ false
fails b other = elim (cases_Bool b) [ inl passes ↦ absurd (other passes) | inr misses ↦ misses ]

at_place : (n k : ℕ) → k < n → (place : ℕ) → place ≡ k → Some k ≡ cond (ltb place n) (Some place) None
at_place n k below place e = grind (arith, nat_tests)

at_no_place : (n place : ℕ) → place ≡ n → None ≡ cond (ltb place n) (Some place) None
at_no_place n place e = grind (arith, nat_tests)

-- a search for the first byte that passes returns its position
pub first_byte : (test : ℕ → Bool) (bs : List ℕ) (r : Option ℕ) → IsFirstByte test bs r → r ≡ position test bs
first_byte test bs None none =
    at_no_place (length bs) (position_or_len test bs)
    (position_or_len_is test bs (length bs) 0 (omega arith)
    (λ k below. fails (test (get_or bs k 0)) (none k (omega arith) below)) (λ below. absurd (omega arith)))
first_byte test bs (Some k) found =
    at_place (length bs) k found.0.high (position_or_len test bs)
    (position_or_len_is test bs k 0 (omega (arith, found.0.high))
    (λ i below. fails (test (get_or bs i 0)) (found.0.before i (omega arith) below)) (λ below. found.1))
