-- Elements that are picked and numbered: where each number below a bound is that of one element of two lists, and no
-- other number is, the number picked in both is the bound.
use Rattle.std.proofs.Common.{◌≡◌, ℕ, zero, suc, ◌+◌, ◌<◌, ◌≤◌, Bool, true, false, List, [], ◌∷◌, length, get_or, refl}
use Rattle.std.proofs.Common.{inl, inr, arith, eq-eqb, lt-ltb}
use Rattle.std.specs.Prelude.{◌==◌, ◌&&◌, nat_lt, count_by, All}
use Rattle.std.proofs.lemmas.Bool.{and_from, cases_Bool, cases_eq, cases_lt, le-ltb, ltb-true, ne_eqb}
use Rattle.std.proofs.lemmas.List.Elements.{All-head, All-tail}
use Rattle.receipt_ledger.proofs.Picked.{count-at, count-cons, is_one, none, one, one_if}

module _ {X : Type 0} (p : X → Bool) (number : X → ℕ) where
  -- whether the element is picked and has this number, or one below this
  abbrev pub numbered : ℕ → X → Bool
  numbered n x = p x && (number x == n)

  abbrev pub below : ℕ → X → Bool
  below n x = p x && nat_lt (number x) n

  one-more : (n : ℕ) (x : X) → one_if (below (suc n) x) ≡ one_if (below n x) + one_if (numbered n x)
  one-more n x = by (p x) (number x)
    where
      by : (b : Bool) (m : ℕ) → one_if (b && nat_lt m (suc n)) ≡ one_if (b && nat_lt m n) + one_if (b && (m == n))
      by false m = refl
      by true m = elim (cases_lt m n) [
        | inl less ↦
            rw (lt-ltb m (suc n) (omega (arith, less)), lt-ltb m n less, ne_eqb m n (λ same. omega (arith, less, same)))
            refl
        | inr from ↦ elim (cases_eq m n) [
          | inl same ↦ rw (lt-ltb m (suc n) (omega (arith, same)), le-ltb m n from, eq-eqb m n same) refl
          | inr other ↦
              let past : suc n ≤ m = omega (arith, from, other) in
              rw (le-ltb m (suc n) past, le-ltb m n from, ne_eqb m n other) refl
        ]
      ]

  pub below-more : (n : ℕ) (xs : List X)
      → count_by (below (suc n)) xs ≡ count_by (below n) xs + count_by (numbered n) xs
  below-more n [] = refl
  below-more n (x ∷ xs) =
      let here = one-more n x in
      let later = below-more n xs in
      let next = count-cons (below (suc n)) x xs in
      let before = count-cons (below n) x xs in
      let same = count-cons (numbered n) x xs in
      omega (arith, here, later, next, before, same)

  pub below-none : (xs : List X) → count_by (below zero) xs ≡ 0
  below-none [] = refl
  below-none (x ∷ xs) =
      let later = below-none xs in
      let all = count-cons (below zero) x xs in
      let here = none (below zero x) (fails (p x)) in
      omega (arith, later, all, here)
    where
      fails : (b : Bool) → (b && nat_lt (number x) zero) ≡ false
      fails false = refl
      fails true = le-ltb (number x) zero (omega arith)

  -- Where all that are picked have numbers below the bound, all of these are counted.
  pub below-all : (n : ℕ) (xs : List X) → All (λ x. p x ≡ true → number x < n) xs
      → count_by (below n) xs ≡ count_by p xs
  below-all n [] low = refl
  below-all n (x ∷ xs) low =
      let later = below-all n xs (All-tail (λ y. p y ≡ true → number y < n) x xs low) in
      let some = count-cons (below n) x xs in
      let all = count-cons p x xs in
      let here = same x (All-head (λ y. p y ≡ true → number y < n) x xs low) in
      omega (arith, later, some, all, here)
    where
      same : (x : X) → (p x ≡ true → number x < n) → one_if (below n x) ≡ one_if (p x)
      same x low = elim (cases_Bool (p x)) [
        | inl passes ↦ rw (passes, lt-ltb (number x) n (low passes)) refl
        | inr fails ↦ rw fails refl
      ]

  -- One that is picked is counted under its number.
  pub numbered-at : (xs : List X) (k : ℕ) (d : X) → k < length xs → p (get_or xs k d) ≡ true
      → 1 ≤ count_by (numbered (number (get_or xs k d))) xs
  numbered-at xs k d inside passes =
      let n = number (get_or xs k d) in
      count-at (numbered n) xs k d inside (and_from _ _ passes (eq-eqb n n refl))

-- A number that is counted below the bound is below it.
pub is_below : (n bound : ℕ) → 1 ≤ one_if (nat_lt n bound) → n < bound
is_below n bound counted = ltb-true n bound (is_one (nat_lt n bound) counted)

module _ {X Y : Type 0} (p : X → Bool) (m : X → ℕ) (q : Y → Bool) (n : Y → ℕ) (xs : List X) (ys : List Y) (bound : ℕ)
    (once : (k : ℕ) → count_by (numbered p m k) xs + count_by (numbered q n k) ys ≡ one_if (nat_lt k bound)) where
  up-to : (k : ℕ) → k ≤ bound → count_by (below p m k) xs + count_by (below q n k) ys ≡ k
  up-to zero within =
      let first = below-none p m xs in
      let second = below-none q n ys in
      omega (arith, first, second)
  up-to (suc k) within =
      let before = up-to k (omega (arith, within)) in
      let first = below-more p m k xs in
      let second = below-more q n k ys in
      let next = once k in
      let here = one (nat_lt k bound) (lt-ltb k bound (omega (arith, within))) in
      omega (arith, before, first, second, next, here)

  low-first : All (λ x. p x ≡ true → m x < bound) xs
  low-first k d inside passes =
      let here = numbered-at p m xs k d inside passes in
      let all = once (m (get_or xs k d)) in
      is_below (m (get_or xs k d)) bound (omega (arith, here, all))

  low-second : All (λ y. q y ≡ true → n y < bound) ys
  low-second k d inside passes =
      let here = numbered-at q n ys k d inside passes in
      let all = once (n (get_or ys k d)) in
      is_below (n (get_or ys k d)) bound (omega (arith, here, all))

  pub as-many : count_by p xs + count_by q ys ≡ bound
  as-many =
      let all = up-to bound (omega arith) in
      let first = below-all p m bound xs low-first in
      let second = below-all q n bound ys low-second in
      omega (arith, all, first, second)
