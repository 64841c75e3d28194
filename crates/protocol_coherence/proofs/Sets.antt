-- Who is in a set of cores, and how many are, in the words of the machine.
use Rattle.std.proofs.Common.{◌≡◌, ℕ, zero, suc, ◌+◌, ◌<◌, ◌≤◌, ◌==◌, ◌&&◌, ◌||◌, Bool, true, false, not, ◌∷◌, filter}
use Rattle.std.proofs.Common.{length, refl, ap, sym, ◌∙◌, arith, if◌then◌else◌, inl, inr}
use Rattle.std.specs.List.{range_with_len}
use Rattle.std.proofs.lemmas.Bool.{and_parts, cases_Bool, eqb-true}
use Rattle.address_map.proofs.CoreSets.{has-only, has-with, has-without, has-zero}
use Rattle.address_map.specs.CoreSet.{count_of, has, members, only, with, without}
use Rattle.protocol_coherence.proofs.Count.{count_below-same, count_below-wider}
use Rattle.protocol_coherence.specs.Coherent.{count_below}

pub in_only : (c x : ℕ) → c < 64 → has (only c) x ≡ (x == c)
in_only c x within = has-only c x within

pub in_with : (s c x : ℕ) → c < 64 → has (with s c) x ≡ (has s x || x == c)
in_with s c x within = has-with s c x within

pub in_without : (s c x : ℕ) → c < 64 → x < 64 → has (without s c) x ≡ (has s x && not (x == c))
in_without s c x within below = has-without s c x

pub in_none : (s x : ℕ) → (s == 0) ≡ true → has s x ≡ false
in_none s x none = ap (λ set. has set x) (eqb-true s 0 none) ∙ has-zero x

-- Core 0 is counted, and then the others.
count_below-lowest : (bound : ℕ) (p : ℕ → Bool) → count_below
    (suc bound) p ≡ (if p 0 then 1 else 0) + count_below bound (λ c. p (suc c))
unfolding count_below
count_below-lowest zero p = refl
count_below-lowest (suc bound) p = let rest = count_below-lowest bound p in omega arith

-- The numbers of a range that pass are as many as are counted.
range_count : (n a : ℕ) (p : ℕ → Bool) → length (filter p (range_with_len a n)) ≡ count_below n (λ x. p (a + x))
unfolding count_below
range_count zero a p = refl
range_count (suc n) a p =
    one (p a) (range_count n (a + 1) p ∙ count_below-same n (λ x. p (a + 1 + x)) (λ x. p (a + suc x))
    (λ x below. ap p (omega arith)))
    ∙ ap (λ b. (if p b then 1 else 0) + count_below n (λ x. p (a + suc x))) (omega arith)
    ∙ sym (count_below-lowest n (λ x. p (a + x)))
  where
    one : (b : Bool) → length (filter p (range_with_len (a + 1) n)) ≡ count_below n (λ x. p (a + suc x))
        → length (if b then a ∷ filter p (range_with_len (a + 1) n) else filter p (range_with_len (a + 1) n))
        ≡ (if b then 1 else 0) + count_below n (λ x. p (a + suc x))
    one true rest = omega (arith, rest)
    one false rest = omega (arith, rest)

set_count : (s : ℕ) → count_of s ≡ count_below 64 (has s)
unfolding count_of members
set_count s = range_count 64 0 (has s) ∙ count_below-same 64 (λ x. has s (0 + x)) (has s)
    (λ x below. ap (has s) (omega arith))

-- The other sharers are as many as cores pass the test.
pub others_count : (cores s c : ℕ) → cores ≤ 64 → c < 64 → ((x : ℕ) → x < 64 → has s x ≡ true → x < cores)
    → count_of (without s c) ≡ count_below cores (λ x. has s x && not (x == c))
others_count cores s c most within known =
    set_count (without s c)
    ∙ count_below-same 64 (has (without s c)) (λ x. has s x && not (x == c)) (λ x below. in_without s c x within below)
    ∙ count_below-wider cores 64 (λ x. has s x && not (x == c)) most (λ x from below.
    elim (cases_Bool (has s x && not (x == c))) [
      | inl is ↦ absurd (not-within x from (known x below (and_parts (has s x) (not (x == c)) is).0))
      | inr out ↦ out
    ])
  where
    not-within : (x : ℕ) → cores ≤ x → x < cores → ⊥
    not-within x from below = omega arith
