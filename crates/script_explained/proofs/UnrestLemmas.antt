-- The first of what is found on a walk over numbers.
use Rattle.std.proofs.Common.{◌≡◌, ℕ, ◌+◌, ◌-◌, ◌<◌, ◌≤◌, Bool, true, false, List, [], ◌∷◌, ◌++◌, suc, zero, refl}
use Rattle.std.proofs.Common.{arith, Some, None}
use Rattle.std.specs.List.{filter, flat_map, range_with_len}
use Rattle.std.specs.Prelude.{IsSome, map, slice_get}

module _ {X : Type 0} (from : ℕ → X) (holds : ℕ → Bool) where
  -- what doesn't hold here is found further on
  pub not_here : (i end : ℕ) → i < end → holds i ≡ false
      → map from (filter holds (range_with_len i (end - i))) ≡ map from
      (filter holds (range_with_len (i + 1) (end - (i + 1))))
  not_here i end within fails = let e : end - i ≡ suc (end - (i + 1)) = omega arith in rw e (rw fails refl)

  -- what holds here is the first
  pub here : (i end : ℕ) → i < end → holds i ≡ true
      → slice_get (map from (filter holds (range_with_len i (end - i)))) 0 ≡ Some (from i)
  here i end within is = let e : end - i ≡ suc (end - (i + 1)) = omega arith in rw e (rw is refl)

  -- after the end there is none
  pub nothing_left : (i end : ℕ) → end ≤ i → slice_get (map from (filter holds (range_with_len i (end - i)))) 0 ≡ None
  nothing_left i end behind = let e : end - i ≡ zero = omega arith in rw e refl

-- a list without a first item has none
pub empty : {X : Type 0} (xs : List X) → slice_get xs 0 ≡ None → xs ≡ []
empty [] none = refl
empty (x ∷ xs) none = (cc)

first_of_both : {X : Type 0} (xs ys : List X) → IsSome (slice_get xs 0) → slice_get xs 0 ≡ slice_get (xs ++ ys) 0
first_of_both [] ys some = (cc)
first_of_both (x ∷ xs) ys some = refl

module _ {X : Type 0} (found : ℕ → List X) where
  pub none_here : (i end : ℕ) → i < end → slice_get (found i) 0 ≡ None
      → flat_map found (range_with_len i (end - i)) ≡ flat_map found (range_with_len (i + 1) (end - (i + 1)))
  none_here i end within none =
      let e : end - i ≡ suc (end - (i + 1)) = omega arith in rw e (rw (empty (found i) none) refl)

  pub here_first : (i end : ℕ) → i < end → IsSome (slice_get (found i) 0)
      → slice_get (found i) 0 ≡ slice_get (flat_map found (range_with_len i (end - i))) 0
  here_first i end within some =
      let e : end - i ≡ suc (end - (i + 1)) = omega arith in
      rw e (first_of_both (found i) (flat_map found (range_with_len (i + 1) (end - (i + 1)))) some)

  pub none_left : (i end : ℕ) → end ≤ i → slice_get (flat_map found (range_with_len i (end - i))) 0 ≡ None
  none_left i end behind = let e : end - i ≡ zero = omega arith in rw e refl
