-- The members of lists that are built from others.
use Rattle.std.proofs.Common.{◌≡◌, ℕ, zero, suc, ◌+◌, ◌<◌, ◌∙◌, ◌⊎◌, Bool, true, false, List, [], ◌∷◌, ap, arith}
use Rattle.std.proofs.Common.{filter, inl, inr, map, refl, subst, sym}
use Rattle.std.specs.Prelude.{◌==◌, if◌then◌else◌, Contains}
use Rattle.std.specs.List.{flat_map, range_with_len}
use Rattle.std.proofs.lemmas.Bool.{eqb-true}
use Rattle.std.proofs.lemmas.List.Elements.{Contains-append_cases, Contains-append_left, Contains-append_right}
use Rattle.std.proofs.lemmas.List.FromFn.{get_or-range_with_len, length-range_with_len}
use Rattle.receipt_ledger.specs.History.{times}

module _ {X : Type 0} where
  here : (x : X) (xs : List X) → Contains (x ∷ xs) x
  here x xs = (0, omega arith, refl)

  there : (x y : X) (xs : List X) → Contains xs x → Contains (y ∷ xs) x
  there x y xs (i, inside, is) = (suc i, omega (arith, inside), is)

  first-or-later : (x y : X) (xs : List X) → Contains (y ∷ xs) x → (y ≡ x) ⊎ Contains xs x
  first-or-later x y xs (zero, inside, is) = inl is
  first-or-later x y xs (suc i, inside, is) = inr (i, omega (arith, inside), is)

  none : (x : X) → Contains [] x → ⊥
  none x (i, inside, is) = omega (arith, inside)

  kept-later : (p : X → Bool) (y : X) (xs : List X) (x : X) (b : Bool) → p y ≡ b → Contains (filter p xs) x
      → Contains (filter p (y ∷ xs)) x
  kept-later p y xs x true is has = rw is (there x y (filter p xs) has)
  kept-later p y xs x false is has = rw is has

  -- what passes the test is kept
  pub kept : (p : X → Bool) (xs : List X) (x : X) → Contains xs x → p x ≡ true → Contains (filter p xs) x
  kept p [] x has passes = absurd (none x has)
  kept p (y ∷ xs) x has passes = elim (first-or-later x y xs has) [
    | inl same ↦
        let yes : p y ≡ true = ap p same ∙ passes in
        rw yes (subst (λ (z : X). Contains (y ∷ filter p xs) z) same (here y (filter p xs)))
    | inr later ↦ kept-later p y xs x (p y) refl (kept p xs x later passes)
  ]

  from-first : (p : X → Bool) (y : X) (xs : List X) (x : X) (b : Bool) → p y ≡ b
      → (Contains (filter p xs) x → Contains xs x) → Contains (filter p (y ∷ xs)) x → Contains (y ∷ xs) x
  from-first p y xs x true is more has = elim (first-or-later x y (filter p xs) (rw is at has)) [
    | inl same ↦ subst (λ (z : X). Contains (y ∷ xs) z) same (here y xs)
    | inr later ↦ there x y xs (more later)
  ]
  from-first p y xs x false is more has = there x y xs (more (rw is at has))

  -- .. and what is kept was there
  pub from-kept : (p : X → Bool) (xs : List X) (x : X) → Contains (filter p xs) x → Contains xs x
  from-kept p [] x has = absurd (none x has)
  from-kept p (y ∷ xs) x has = from-first p y xs x (p y) refl (from-kept p xs x) has

module _ {X Y : Type 0} (f : X → List Y) where
  -- a member of one of the lists is one of all together
  pub in-all : (xs : List X) (x : X) (y : Y) → Contains xs x → Contains (f x) y → Contains (flat_map f xs) y
  in-all [] x y has one = absurd (none x has)
  in-all (z ∷ xs) x y has one = elim (first-or-later x z xs has) [
    | inl same ↦
        Contains-append_left (f z) (flat_map f xs) y (subst (λ (w : X). Contains (f w) y) (sym same) one)
    | inr later ↦ Contains-append_right (f z) (flat_map f xs) y (in-all xs x y later one)
  ]

  -- .. and a member of all together is one of some list
  pub in-one : (xs : List X) (y : Y) → Contains (flat_map f xs) y → (x : X) × Contains xs x × Contains (f x) y
  in-one [] y has = absurd (none y has)
  in-one (x ∷ xs) y has = elim (Contains-append_cases (f x) (flat_map f xs) y has) [
    | inl first ↦ (x, here x xs, first)
    | inr later ↦
        let (z, among, one) = in-one xs y later in (z, there z x xs among, one)
  ]

-- the numbers below a bound
pub below : (n k : ℕ) → k < n → Contains (range_with_len 0 n) k
below n k less =
    let long = length-range_with_len 0 n in
    let is : 0 + k ≡ k = omega arith in
    (k, omega (arith, long, less), get_or-range_with_len 0 n k k less ∙ is)

pub is-below : (n k : ℕ) → Contains (range_with_len 0 n) k → k < n
is-below n k (i, inside, is) =
    let long = length-range_with_len 0 n in
    let at = get_or-range_with_len 0 n i k (omega (arith, long, inside)) in
    omega (arith, long, inside, is, at)

counted-first : {X : Type 0} (number : X → ℕ) (x : X) (xs : List X) (n : ℕ) (b : Bool) → (number x == n) ≡ b
    → (0 < times n (map number xs) → (y : X) × Contains xs y × (number y ≡ n))
    → 0 < (if number x == n then 1 else 0) + times n (map number xs)
    → (y : X) × Contains (x ∷ xs) y × (number y ≡ n)
counted-first number x xs n true is more some = (x, here x xs, eqb-true (number x) n is)
counted-first number x xs n false is more some =
    let left : 0 < 0 + times n (map number xs) = rw is at some in
    let (y, among, same) = more (omega (arith, left)) in (y, there y x xs among, same)

-- What is counted is a member.
pub counted : {X : Type 0} (number : X → ℕ) (xs : List X) (n : ℕ) → 0 < times n (map number xs)
    → (x : X) × Contains xs x × (number x ≡ n)
counted number [] n some = absurd (omega (arith, some))
counted number (x ∷ xs) n some = counted-first number x xs n (number x == n) refl (counted number xs n) some
