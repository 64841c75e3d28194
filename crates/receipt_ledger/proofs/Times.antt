-- How often numbers occur in a list: where each number below a bound occurs at least once in a list that is no longer,
-- each occurs just once, and no other does.
use Rattle.std.proofs.Common.{◌≡◌, ℕ, zero, suc, ◌+◌, ◌<◌, ◌≤◌, Bool, true, false, if◌then◌else◌, List, [], ◌∷◌, length}
use Rattle.std.proofs.Common.{Some, refl, sym, ap, subst, inl, inr, arith, eq-eqb, lt-ltb}
use Rattle.std.specs.Prelude.{◌==◌, nat_lt, slice_get}
use Rattle.std.proofs.lemmas.Bool.{cases_eq, cases_lt, le-ltb, ltb-true, ne_eqb}
use Rattle.std.proofs.lemmas.Option.{same_Some}
use Rattle.receipt_ledger.specs.History.{times}

abbrev one_if : Bool → ℕ
one_if b = if b then 1 else 0

one-most : (b : Bool) → one_if b ≤ 1
one-most true = omega arith
one-most false = omega arith

one-true : (b : Bool) → one_if b ≡ 1 → b ≡ true
one-true true is = refl
one-true false is = absurd (omega (arith, is))

-- how many elements are below the bound
abbrev below : ℕ → List ℕ → ℕ
below n [] = 0
below n (x ∷ xs) = one_if (nat_lt x n) + below n xs

-- An element is below the next bound where it is below this one, or is this one.
one-more : (n x : ℕ) → one_if (nat_lt x (suc n)) ≡ one_if (nat_lt x n) + one_if (x == n)
one-more n x = elim (cases_lt x n) [
  | inl less ↦
      rw (lt-ltb x (suc n) (omega (arith, less)), lt-ltb x n less, ne_eqb x n (λ same. omega (arith, less, same))) refl
  | inr from ↦ elim (cases_eq x n) [
    | inl same ↦ rw (lt-ltb x (suc n) (omega (arith, same)), le-ltb x n from, eq-eqb x n same) refl
    | inr other ↦
        let past : suc n ≤ x = omega (arith, from, other) in
        rw (le-ltb x (suc n) past, le-ltb x n from, ne_eqb x n other) refl
  ]
]

below-more : (n : ℕ) (xs : List ℕ) → below (suc n) xs ≡ below n xs + times n xs
below-more n [] = refl
below-more n (x ∷ xs) =
    let one = one-more n x in
    let rest = below-more n xs in
    omega (arith, one, rest)

below-most : (n : ℕ) (xs : List ℕ) → below n xs ≤ length xs
below-most n [] = omega arith
below-most n (x ∷ xs) =
    let one = one-most (nat_lt x n) in
    let rest = below-most n xs in
    omega (arith, one, rest)

-- Each of the numbers below the bound is in the list.
abbrev StandAll : ℕ → List ℕ → Type 0
StandAll n xs = (k : ℕ) → k < n → 1 ≤ times k xs

fewer : (n : ℕ) (xs : List ℕ) → StandAll (suc n) xs → StandAll n xs
fewer n xs all k less = all k (omega (arith, less))

stand-all : (n : ℕ) (xs : List ℕ) → StandAll n xs → n ≤ below n xs
stand-all zero xs all = omega arith
stand-all (suc n) xs all =
    let before = stand-all n xs (fewer n xs all) in
    let last = all n (omega arith) in
    let more = below-more n xs in
    omega (arith, before, last, more)

just-once : (n : ℕ) (xs : List ℕ) → StandAll n xs → below n xs ≤ n → (k : ℕ) → k < n → times k xs ≡ 1
just-once zero xs all most k less = absurd (omega (arith, less))
just-once (suc n) xs all most k less =
    let before = stand-all n xs (fewer n xs all) in
    let last = all n (omega arith) in
    let more = below-more n xs in
    elim (cases_eq k n) [
      | inl same ↦ subst (λ j. times j xs ≡ 1) (sym same) (omega (arith, before, last, more, most))
      | inr other ↦ just-once n xs (fewer n xs all) (omega (arith, last, more, most)) k (omega (arith, less, other))
    ]

all-below : (n : ℕ) (xs : List ℕ) → below n xs ≡ length xs → (i x : ℕ) → slice_get xs i ≡ Some x → x < n
all-below n [] full i x there = absurd (cc)
all-below n (y ∷ ys) full zero x there =
    let most = below-most n ys in
    let one = one-most (nat_lt y n) in
    subst (λ z. z < n) (same_Some y x there)
    (ltb-true y n (one-true (nat_lt y n) (omega (arith, full, most, one))))
all-below n (y ∷ ys) full (suc i) x there =
    let most = below-most n ys in
    let one = one-most (nat_lt y n) in
    all-below n ys (omega (arith, full, most, one)) i x there

-- What is at a place is counted.
pub counted-at : (k : ℕ) (xs : List ℕ) (i : ℕ) → slice_get xs i ≡ Some k → 1 ≤ times k xs
counted-at k [] i there = absurd (cc)
counted-at k (x ∷ xs) zero there =
    let one = ap one_if (eq-eqb x k (same_Some x k there)) in
    omega (arith, one)
counted-at k (x ∷ xs) (suc i) there = let rest = counted-at k xs i there in omega (arith, rest)

-- What occurs just once is at one place.
pub one-place : (k : ℕ) (xs : List ℕ) (i j : ℕ) → times k xs ≡ 1 → slice_get xs i ≡ Some k → slice_get xs j ≡ Some k
    → i ≡ j
one-place k [] i j once here there = absurd (cc)
one-place k (x ∷ xs) zero zero once here there = refl
one-place k (x ∷ xs) zero (suc j) once here there =
    let one = ap one_if (eq-eqb x k (same_Some x k here)) in
    let more = counted-at k xs j there in
    absurd (omega (arith, one, more, once))
one-place k (x ∷ xs) (suc i) zero once here there =
    let one = ap one_if (eq-eqb x k (same_Some x k there)) in
    let more = counted-at k xs i here in
    absurd (omega (arith, one, more, once))
one-place k (x ∷ xs) (suc i) (suc j) once here there =
    let most = one-most (x == k) in
    let more = counted-at k xs i here in
    ap (λ n. suc n) (one-place k xs i j (omega (arith, most, more, once)) here there)

-- Where each number below the list's length is in it, each occurs just once, and all are below it.
pub record AreOnce (xs : List ℕ) : Type 0 where
  pub once : (k : ℕ) → k < length xs → times k xs ≡ 1
  pub within : (i x : ℕ) → slice_get xs i ≡ Some x → x < length xs

pub are-once : (xs : List ℕ) → ((k : ℕ) → k < length xs → 1 ≤ times k xs) → AreOnce xs
are-once xs all =
    let most = below-most (length xs) xs in
    let least = stand-all (length xs) xs all in record {
      once = just-once (length xs) xs all most;
      within = all-below (length xs) xs (omega (arith, most, least));
    }
