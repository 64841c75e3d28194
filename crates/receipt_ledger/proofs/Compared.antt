-- What a search among ports, and an element at a place, say of what they are compared with.
use Rattle.std.proofs.Common.{◌≡◌, ℕ, zero, suc, ◌+◌, ◌<◌, ◌≤◌, Bool, true, false, cond, List, [], ◌∷◌, get_or, length}
use Rattle.std.proofs.Common.{map, take, Option, Some, None, refl, sym, ap, ◌∙◌, subst, arith}
use Rattle.std.specs.Prelude.{find, slice_get, IsTrue, MatchOption}
use Rattle.std.proofs.lemmas.Bool.{false≢true}
use Rattle.std.proofs.lemmas.Option.{same_Some}

one : {X : Type 0} {x y : X} → Some x ≡ Some y → x ≡ y
one is = cc

-- the same of what a search finds
pub finds-some : {X : Type 0} (o : Option X) (x : X) (P : X → Type 0) (b : Bool) → o ≡ Some x → (IsTrue b → P x)
    → (P x → IsTrue b) → (IsTrue b → MatchOption o ⊥ P) × (MatchOption o ⊥ P → IsTrue b)
finds-some o x P b is to from = (
  λ t. subst (λ y. MatchOption y ⊥ P) (sym is) (to t),
  λ h. from (subst (λ y. MatchOption y ⊥ P) is h),
)

pub finds-none : {X : Type 0} (o : Option X) (P : X → Type 0) → o ≡ None
    → (IsTrue false → MatchOption o ⊥ P) × (MatchOption o ⊥ P → IsTrue false)
finds-none o P is = (λ t. absurd (false≢true t), λ h. absurd (subst (λ y. MatchOption y ⊥ P) is h))

-- ---- a search in order

module _ {Y : Type 0} (test : Y → Bool) where
  -- The first that passes is found.
  past-one : (y : Y) (ys zs : List Y) (found : Option Y) → find test (y ∷ ys) ≡ None
      → (find test ys ≡ None → find test zs ≡ found) → find test (y ∷ zs) ≡ found
  past-one y ys zs found none rest = by_test (test y) none
    where
      by_test : (b : Bool) → cond b (Some y) (find test ys) ≡ None → cond b (Some y) (find test zs) ≡ found
      by_test true is = absurd (cc)
      by_test false is = rest is

module _ {X Y : Type 0} (f : X → Y) (test : Y → Bool) where
  find-here : (xs : List X) (i : ℕ) (d : X) → find test (take i (map f xs)) ≡ None → i < length xs
      → test (f (get_or xs i d)) ≡ true → find test (map f xs) ≡ Some (f (get_or xs i d))
  find-here [] i d none within passes = absurd (omega (arith, within))
  find-here (x ∷ xs) zero d none within passes = rw passes refl
  find-here (x ∷ xs) (suc i) d none within passes =
      past-one test (f x) (take i (map f xs)) (map f xs) (Some (f (get_or xs i d))) none
      (λ rest. find-here xs i d rest (omega (arith, within)) passes)

  -- The same of an element that has a name.
  pub find-as : (xs : List X) (i : ℕ) (d : X) (y : Y) → find test (take i (map f xs)) ≡ None → i < length xs
      → y ≡ f (get_or xs i d) → test y ≡ true → find test (map f xs) ≡ Some y
  find-as xs i d y none within is passes =
      find-here xs i d none within (ap test (sym is) ∙ passes) ∙ ap (λ z. Some z) (sym is)

  find-next : (xs : List X) (i : ℕ) (d : X) → find test (take i (map f xs)) ≡ None → i < length xs
      → test (f (get_or xs i d)) ≡ false → find test (take (suc i) (map f xs)) ≡ None
  find-next [] i d none within fails = absurd (omega (arith, within))
  find-next (x ∷ xs) zero d none within fails = rw fails refl
  find-next (x ∷ xs) (suc i) d none within fails =
      past-one test (f x) (take i (map f xs)) (take (suc i) (map f xs)) None none
      (λ rest. find-next xs i d rest (omega (arith, within)) fails)

  -- One more that doesn't pass is found no more than those before.
  pub find-past : (xs : List X) (i : ℕ) (d : X) → find test (take i (map f xs)) ≡ None → i < length xs
      → test (f (get_or xs i d)) ≡ false → find test (take (i + 1) (map f xs)) ≡ None
  find-past xs i d none within fails =
      subst (λ n. find test (take n (map f xs)) ≡ None) (let next : suc i ≡ i + 1 = omega arith in next)
      (find-next xs i d none within fails)

  pub find-none : (xs : List X) (i : ℕ) → find test (take i (map f xs)) ≡ None → length xs ≤ i
      → find test (map f xs) ≡ None
  find-none [] i none past = refl
  find-none (x ∷ xs) zero none past = absurd (omega (arith, past))
  find-none (x ∷ xs) (suc i) none past =
      past-one test (f x) (take i (map f xs)) (map f xs) None none (λ rest. find-none xs i rest (omega (arith, past)))

-- ---- one element after another

each-next : {X : Type 0} (P : ℕ → X → Type 0) (xs : List X) (i : ℕ) (d : X)
    → ((k : ℕ) (x : X) → slice_get (take i xs) k ≡ Some x → P k x) → i < length xs → P i (get_or xs i d)
    → (k : ℕ) (x : X) → slice_get (take (suc i) xs) k ≡ Some x → P k x
each-next P [] i d before within here k x there = absurd (omega (arith, within))
each-next P (y ∷ ys) zero d before within here zero x there = subst (P 0) (same_Some y x there) here
each-next P (y ∷ ys) zero d before within here (suc k) x there = absurd (cc)
each-next P (y ∷ ys) (suc i) d before within here zero x there = before zero x there
each-next P (y ∷ ys) (suc i) d before within here (suc k) x there =
    each-next (λ n. P (suc n)) ys i d (λ n z at. before (suc n) z at) (omega (arith, within)) here k x there

-- What holds at each place before this one and here holds at each before the next.
pub each-more : {X : Type 0} (P : ℕ → X → Type 0) (xs : List X) (i : ℕ) (d : X)
    → ((k : ℕ) (x : X) → slice_get (take i xs) k ≡ Some x → P k x) → i < length xs → P i (get_or xs i d)
    → (k : ℕ) (x : X) → slice_get (take (i + 1) xs) k ≡ Some x → P k x
each-more P xs i d before within here k x there =
    each-next P xs i d before within here k x
    (ap (λ n. slice_get (take n xs) k) (let next : suc i ≡ i + 1 = omega arith in next) ∙ there)
