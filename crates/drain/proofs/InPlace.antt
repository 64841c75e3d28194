-- A list in which one element after the other is changed in its place, and what is at an element's rank among those
-- that pass a test.
use Rattle.std.proofs.Common.{◌≡◌, ℕ, zero, suc, ◌+◌, ◌<◌, ◌≤◌, ◌∙◌, Bool, true, false, List, [], ◌∷◌, length, refl}
use Rattle.std.proofs.Common.{sym, ap, cond, arith, filter, get_or, set, map}

-- the list with its first elements changed
abbrev pub changed : {X : Type 0} → (X → X) → ℕ → List X → List X
changed f zero xs = xs
changed f (suc i) [] = []
changed f (suc i) (x ∷ xs) = f x ∷ changed f i xs

-- The next element is as it was.
pub next-unchanged : {X : Type 0} (f : X → X) (i : ℕ) (xs : List X) (d : X) → i < length xs
    → get_or (changed f i xs) i d ≡ get_or xs i d
next-unchanged f zero xs d within = refl
next-unchanged f (suc i) [] d within = refl
next-unchanged f (suc i) (x ∷ xs) d within = next-unchanged f i xs d (omega (arith, within))

changed-suc : {X : Type 0} (f : X → X) (i : ℕ) (xs : List X) (d : X) → i < length xs
    → set (changed f i xs) i (f (get_or xs i d)) ≡ changed f (suc i) xs
changed-suc f zero [] d within = absurd (omega (arith, within))
changed-suc f zero (x ∷ xs) d within = refl
changed-suc f (suc i) [] d within = absurd (omega (arith, within))
changed-suc f (suc i) (x ∷ xs) d within = ap (λ ys. f x ∷ ys) (changed-suc f i xs d (omega (arith, within)))

-- the next element changes
pub changed-more : {X : Type 0} (f : X → X) (i : ℕ) (xs : List X) (d : X) → i < length xs
    → set (changed f i xs) i (f (get_or xs i d)) ≡ changed f (i + 1) xs
changed-more f i xs d within =
    let next : suc i ≡ i + 1 = omega arith in changed-suc f i xs d within ∙ ap (λ n. changed f n xs) next

unchanged-suc : {X : Type 0} (f : X → X) (i : ℕ) (xs : List X) (d : X) → i < length xs
    → f (get_or xs i d) ≡ get_or xs i d
    → changed f i xs ≡ changed f (suc i) xs
unchanged-suc f zero [] d within same = refl
unchanged-suc f zero (x ∷ xs) d within same = ap (λ y. y ∷ xs) (sym same)
unchanged-suc f (suc i) [] d within same = refl
unchanged-suc f (suc i) (x ∷ xs) d within same =
    ap (λ ys. f x ∷ ys) (unchanged-suc f i xs d (omega (arith, within)) same)

-- the next element is left as it is
pub unchanged-more : {X : Type 0} (f : X → X) (i : ℕ) (xs : List X) (d : X) → i < length xs
    → f (get_or xs i d) ≡ get_or xs i d → changed f i xs ≡ changed f (i + 1) xs
unchanged-more f i xs d within same =
    let next : suc i ≡ i + 1 = omega arith in unchanged-suc f i xs d within same ∙ ap (λ n. changed f n xs) next

pub all-changed : {X : Type 0} (f : X → X) (xs : List X) → changed f (length xs) xs ≡ map f xs
all-changed f [] = refl
all-changed f (x ∷ xs) = ap (λ ys. f x ∷ ys) (all-changed f xs)

-- ---- ranks

-- how many before this place pass the test
abbrev pub rank : {X : Type 0} → (X → Bool) → ℕ → List X → ℕ
rank p zero xs = 0
rank p (suc i) [] = 0
rank p (suc i) (x ∷ xs) = cond (p x) (suc (rank p i xs)) (rank p i xs)

rank-suc : {X : Type 0} (p : X → Bool) (i : ℕ) (xs : List X) (d : X) → i < length xs
    → rank p (suc i) xs ≡ rank p i xs + cond (p (get_or xs i d)) 1 0
rank-suc p zero [] d within = absurd (omega (arith, within))
rank-suc p zero (x ∷ xs) d within = elim (p x) as (λ b. cond b 1 0 ≡ 0 + cond b 1 0) [ true ↦ refl | false ↦ refl ]
rank-suc p (suc i) [] d within = absurd (omega (arith, within))
rank-suc p (suc i) (x ∷ xs) d within =
    let rest = rank-suc p i xs d (omega (arith, within)) in
    elim (p x) as (λ b. cond b (suc (rank p (suc i) xs)) (rank p (suc i) xs)
    ≡ cond b (suc (rank p i xs)) (rank p i xs) + cond (p (get_or xs i d)) 1 0) [
      | true ↦ omega (arith, rest)
      | false ↦ rest
    ]

pub rank-more : {X : Type 0} (p : X → Bool) (i : ℕ) (xs : List X) (d : X) → i < length xs
    → rank p (i + 1) xs ≡ rank p i xs + cond (p (get_or xs i d)) 1 0
rank-more p i xs d within =
    let next : i + 1 ≡ suc i = omega arith in ap (λ n. rank p n xs) next ∙ rank-suc p i xs d within

pub rank-most : {X : Type 0} (p : X → Bool) (i : ℕ) (xs : List X) → rank p i xs ≤ i
rank-most p zero xs = omega arith
rank-most p (suc i) [] = omega arith
rank-most p (suc i) (x ∷ xs) =
    let rest = rank-most p i xs in
    elim (p x) as (λ b. cond b (suc (rank p i xs)) (rank p i xs) ≤ suc i) [
      | true ↦ omega (arith, rest)
      | false ↦ omega (arith, rest)
    ]

-- The element that is at that rank among those that pass is this one.
pub ranked : {X : Type 0} (p : X → Bool) (g : X → ℕ) (i : ℕ) (xs : List X) (d : X) (none : ℕ) → i < length xs
    → p (get_or xs i d) ≡ true → get_or (map g (filter p xs)) (rank p i xs) none ≡ g (get_or xs i d)
ranked p g zero [] d none within passes = absurd (omega (arith, within))
ranked p g zero (x ∷ xs) d none within passes =
    ap (λ b. get_or (map g (cond b (x ∷ filter p xs) (filter p xs))) 0 none) passes
ranked p g (suc i) [] d none within passes = absurd (omega (arith, within))
ranked p g (suc i) (x ∷ xs) d none within passes =
    let rest = ranked p g i xs d none (omega (arith, within)) passes in
    elim (p x) as (λ b. get_or (map g (cond b (x ∷ filter p xs) (filter p xs)))
    (cond b (suc (rank p i xs)) (rank p i xs)) none
    ≡ g (get_or xs i d)) [
      | true ↦ rest
      | false ↦ rest
    ]

pub rank-within : {X : Type 0} (p : X → Bool) (i : ℕ) (xs : List X) (d : X) → i < length xs
    → p (get_or xs i d) ≡ true → rank p i xs < length (filter p xs)
rank-within p zero [] d within passes = absurd (omega (arith, within))
rank-within p zero (x ∷ xs) d within passes =
    let long : length (filter p (x ∷ xs)) ≡ length (filter p xs) + 1 =
    ap (λ b. length (cond b (x ∷ filter p xs) (filter p xs))) passes ∙ (omega arith) in
    omega (arith, long)
rank-within p (suc i) [] d within passes = absurd (omega (arith, within))
rank-within p (suc i) (x ∷ xs) d within passes =
    let rest = rank-within p i xs d (omega (arith, within)) passes in
    elim (p x) as (λ b. cond b (suc (rank p i xs)) (rank p i xs) < length (cond b (x ∷ filter p xs) (filter p xs))) [
      | true ↦ omega (arith, rest)
      | false ↦ rest
    ]

-- The element at a place of the changed list is the change of the one there.
pub map-at : {X Y : Type 0} (f : X → Y) (xs : List X) (i : ℕ) (d : X) → get_or (map f xs) i (f d) ≡ f (get_or xs i d)
map-at f [] i d = refl
map-at f (x ∷ xs) zero d = refl
map-at f (x ∷ xs) (suc i) d = map-at f xs i d
