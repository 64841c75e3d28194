-- Sums over numbers and lists, and over lists that are cut into parts.
use Rattle.std.proofs.Common.{◌≡◌, ℕ, zero, suc, ◌+◌, ◌<◌, ◌≤◌, ◌∙◌, true, false, List, [], ◌∷◌, ◌++◌, refl, sym, ap}
use Rattle.std.proofs.Common.{cond, arith, inl, inr, filter, sum_by, eq-eqb}
use Rattle.std.specs.List.{flat_map, range_with_len, AllByRecursion}
use Rattle.std.specs.Prelude.{◌==◌}
use Rattle.std.proofs.lemmas.Bool.{cases_eq, ne_eqb}
use Rattle.std.proofs.lemmas.List.Sums.{sum_by-cons}

-- A measure of lists that adds up: that of a list is the sum of those of its parts.
pub record IsAdditive {X : Type 0} (f : List X → ℕ) : Type 0 where
  pub none : f [] ≡ 0
  pub both : (xs ys : List X) → f (xs ++ ys) ≡ f xs + f ys

-- that of a concatenation is the sum of those of its lists
pub additive-flat_map : {X Y : Type 0} (f : List Y → ℕ) → IsAdditive f → (g : X → List Y) (xs : List X)
    → f (flat_map g xs) ≡ sum_by (λ x. f (g x)) xs
additive-flat_map f adds g [] = adds.none
additive-flat_map f adds g (x ∷ xs) =
    adds.both (g x) (flat_map g xs) ∙ ap (λ n. f (g x) + n) (additive-flat_map f adds g xs)
    ∙ sym (sum_by-cons (λ y. f (g y)) x xs)

-- The numbers of a range, and the one after them.
range-more : (a n : ℕ) → range_with_len a (suc n) ≡ range_with_len a n ++ (a + n) ∷ []
range-more a zero = let here : a ≡ a + 0 = omega arith in ap (λ x. x ∷ []) here
range-more a (suc n) =
    let here : (a + 1) + n ≡ a + suc n = omega arith in
    ap (λ xs. a ∷ xs) (range-more (a + 1) n ∙ ap (λ x. range_with_len (a + 1) n ++ x ∷ []) here)

pub below-more : (n : ℕ) → range_with_len 0 (n + 1) ≡ range_with_len 0 n ++ n ∷ []
below-more n =
    let next : n + 1 ≡ suc n = omega arith in
    let last : 0 + n ≡ n = omega arith in
    ap (range_with_len 0) next ∙ range-more 0 n ∙ ap (λ (x : ℕ). range_with_len 0 n ++ x ∷ []) last

-- Terms that are equal for each element have the same sum.
pub sum_by-same : {X : Type 0} (f g : X → ℕ) → ((x : X) → f x ≡ g x) → (xs : List X) → sum_by f xs ≡ sum_by g xs
sum_by-same f g same [] = refl
sum_by-same f g same (x ∷ xs) =
    let rest = sum_by-same f g same xs in
    let here = same x in
    let left = sum_by-cons f x xs in
    let right = sum_by-cons g x xs in
    omega (arith, rest, here, left, right)

-- So have those that are equal for each number of a range.
pub sum_by-range : (f g : ℕ → ℕ) (a n : ℕ) → ((k : ℕ) → a ≤ k → k < a + n → f k ≡ g k)
    → sum_by f (range_with_len a n) ≡ sum_by g (range_with_len a n)
sum_by-range f g a zero same = refl
sum_by-range f g a (suc n) same =
    let rest = sum_by-range f g (a + 1) n (λ k from within. same k (omega (arith, from)) (omega (arith, within))) in
    let here = same a (omega arith) (omega arith) in
    let left = sum_by-cons f a (range_with_len (a + 1) n) in
    let right = sum_by-cons g a (range_with_len (a + 1) n) in
    omega (arith, rest, here, left, right)

-- A sum of sums of two terms is the sum of both.
sum_by-plus : {X : Type 0} (f g : X → ℕ) (xs : List X) → sum_by (λ x. f x + g x) xs ≡ sum_by f xs + sum_by g xs
sum_by-plus f g [] = refl
sum_by-plus f g (x ∷ xs) =
    let rest = sum_by-plus f g xs in
    let whole = sum_by-cons (λ y. f y + g y) x xs in
    let left = sum_by-cons f x xs in
    let right = sum_by-cons g x xs in
    omega (arith, rest, whole, left, right)

sum_by-zero : {X : Type 0} (xs : List X) → sum_by (λ x. 0) xs ≡ 0
sum_by-zero [] = refl
sum_by-zero {X} (x ∷ xs) =
    let rest = sum_by-zero {X = X} xs in
    let whole = sum_by-cons {X = X} (λ y. 0) x xs in
    whole ∙ ap (λ n. 0 + n) rest

-- The order of two sums doesn't matter.
pub sum_by-swap : {X Y : Type 0} (f : X → Y → ℕ) (xs : List X) (ys : List Y)
    → sum_by (λ x. sum_by (λ y. f x y) ys) xs ≡ sum_by (λ y. sum_by (λ x. f x y) xs) ys
sum_by-swap f [] ys = sym (sum_by-zero ys)
sum_by-swap f (x ∷ xs) ys =
    sum_by-cons (λ z. sum_by (λ y. f z y) ys) x xs
    ∙ ap (λ n. sum_by (λ y. f x y) ys + n) (sum_by-swap f xs ys)
    ∙ sym (sum_by-plus (λ y. f x y) (λ y. sum_by (λ z. f z y) xs) ys)
    ∙ sum_by-same (λ y. f x y + sum_by (λ z. f z y) xs) (λ y. sum_by (λ z. f z y) (x ∷ xs))
    (λ y. sym (sum_by-cons (λ z. f z y) x xs)) ys

-- the sum of the terms of those elements that bear this number
picked : {X : Type 0} (number : X → ℕ) (f : X → ℕ) → ℕ → List X → ℕ
picked number f n xs = sum_by f (filter (λ x. number x == n) xs)

term : ℕ → ℕ → ℕ → ℕ
term m v k = cond (m == k) v 0

picked-cons : {X : Type 0} (number : X → ℕ) (f : X → ℕ) (k : ℕ) (x : X) (xs : List X)
    → picked number f k (x ∷ xs) ≡ term (number x) (f x) k + picked number f k xs
unfolding picked term
picked-cons number f k x xs =
    elim (number x == k) as (λ b. sum_by f (cond b (x ∷ filter (λ y. number y == k) xs)
    (filter (λ y. number y == k) xs))
    ≡ cond b (f x) 0 + picked number f k xs) [
      | true ↦ sum_by-cons f x (filter (λ y. number y == k) xs)
      | false ↦ omega arith
    ]

-- Where the terms of all numbers of a range but one are 0, the sum is that one.
zero-past : (g : ℕ → ℕ) (m a n : ℕ) → m < a → ((k : ℕ) → a ≤ k → k < a + n → (k ≡ m → ⊥) → g k ≡ 0)
    → sum_by g (range_with_len a n) ≡ 0
zero-past g m a zero past zeros = refl
zero-past g m a (suc n) past zeros =
    let here = zeros a (omega arith) (omega arith) (λ same. omega (arith, same, past)) in
    let rest = zero-past g m (a + 1) n (omega (arith, past))
    (λ k from within other. zeros k (omega (arith, from)) (omega (arith, within)) other) in
    let whole = sum_by-cons g a (range_with_len (a + 1) n) in
    omega (arith, here, rest, whole)

pub only-at : (g : ℕ → ℕ) (m a n : ℕ) → a ≤ m → m < a + n
    → ((k : ℕ) → a ≤ k → k < a + n → (k ≡ m → ⊥) → g k ≡ 0) → sum_by g (range_with_len a n) ≡ g m
only-at g m a zero from within zeros = absurd (omega (arith, from, within))
only-at g m a (suc n) from within zeros =
    let whole = sum_by-cons g a (range_with_len (a + 1) n) in
    let later = λ (k : ℕ) (past : a + 1 ≤ k) (inside : k < (a + 1) + n) (other : k ≡ m → ⊥).
    zeros k (omega (arith, past)) (omega (arith, inside)) other in
    elim (cases_eq a m) [
      | inl same ↦
          let rest = zero-past g m (a + 1) n (omega (arith, same)) later in
          let here = ap g same in
          omega (arith, whole, rest, here)
      | inr other ↦
          let rest = only-at g m (a + 1) n (omega (arith, from, other)) (omega (arith, within)) later in
          let here = zeros a (omega arith) (omega arith) other in
          omega (arith, whole, rest, here)
    ]

one-term : (m v n : ℕ) → m < n → sum_by (term m v) (range_with_len 0 n) ≡ v
unfolding term
one-term m v n within =
    only-at (term m v) m 0 n (omega arith) (omega (arith, within))
    (λ k from inside other. ap (λ b. cond b v 0) (ne_eqb m k (λ same. other (sym same))))
    ∙ ap (λ b. cond b v 0) (eq-eqb m m refl)

-- Where all elements bear numbers below a limit, the sum over the numbers below it of what those elements give that
-- bear the number is the sum over all elements.
pub by-number : {X : Type 0} (number : X → ℕ) (f : X → ℕ) (limit : ℕ) (xs : List X)
    → AllByRecursion (λ x. number x < limit) xs
    → sum_by (λ k. sum_by f (filter (λ x. number x == k) xs)) (range_with_len 0 limit) ≡ sum_by f xs
unfolding picked
by-number number f limit [] all = sum_by-zero (range_with_len 0 limit)
by-number number f limit (x ∷ xs) all =
    sum_by-same (λ k. picked number f k (x ∷ xs)) (λ k. term (number x) (f x) k + picked number f k xs)
    (λ k. picked-cons number f k x xs) (range_with_len 0 limit)
    ∙ sum_by-plus (term (number x) (f x)) (λ k. picked number f k xs) (range_with_len 0 limit)
    ∙ ap (λ n. n + sum_by (λ k. picked number f k xs) (range_with_len 0 limit)) (one-term (number x) (f x) limit all.0)
    ∙ ap (λ n. f x + n) (by-number number f limit xs all.1)
    ∙ sym (sum_by-cons f x xs)
