-- Numbers that have the same number subtracted from each.
use Rattle.std.proofs.Common.{◌≡◌, ℕ, ◌+◌, ◌*◌, ◌-◌, ◌≤◌, List, [], ◌∷◌, All, ap, length, sum, sum_by, arith}
use Rattle.std.proofs.lemmas.List.Elements.{All-head, All-tail}
use Rattle.std.proofs.lemmas.List.Sums.{sum_by-cons}
use Rattle.program_rows.specs.Figures.{spread_of, square}

-- how far a number is above another
abbrev pub above : ℕ → ℕ → ℕ
above a x = x - a

-- the sum with what was taken from each
pub sum_above : (a : ℕ) (xs : List ℕ) → All (λ x. a ≤ x) xs → sum xs ≡ sum_by (above a) xs + length xs * a
sum_above a [] all = omega arith
sum_above a (x ∷ xs) all =
    let le : a ≤ x = All-head (λ x. a ≤ x) x xs all in
    omega (arith, sum_by-cons (λ n. n) x xs, sum_by-cons (above a) x xs, sum_above a xs (All-tail (λ x. a ≤ x) x xs all))

-- the square of a number, with what was taken from it
pub square_above : (a x : ℕ) → a ≤ x → square x ≡ square (above a x) + 2 * (a * above a x) + square a
square_above a x le =
    let sum : above a x + a ≡ x = omega arith in omega (arith, ap square sum)

-- the sum of the squares with it
pub squares_above : (a : ℕ) (xs : List ℕ) → All (λ x. a ≤ x) xs → sum_by square xs ≡ sum_by (λ x. square (above a x)) xs + 2 * (a * sum_by (above a) xs) + length xs * square a
squares_above a [] all = omega arith
squares_above a (x ∷ xs) all =
    let le : a ≤ x = All-head (λ x. a ≤ x) x xs all in
    omega (arith, square_above a x le, sum_by-cons square x xs, ap (λ (n : ℕ). a * n) (sum_by-cons (above a) x xs), sum_by-cons (λ x. square (above a x)) x xs, squares_above a xs (All-tail (λ x. a ≤ x) x xs all))

-- .. and so with sums of n numbers
pub same_spread : (n s q a t r : ℕ) → s ≡ t + n * a → q ≡ r + 2 * (a * t) + n * square a → n * q - square s ≡ n * r - square t
same_spread n s q a t r hs hq =
    let left : n * q ≡ n * r + (2 * (n * (a * t)) + square (n * a)) = omega (arith, ap (λ (x : ℕ). n * x) hq) in
    let right : square s ≡ square t + (2 * (n * (a * t)) + square (n * a)) = omega (arith, ap square hs) in
    omega (arith, left, right)

-- the spread is the same over what is left of each
pub spread_above : (a : ℕ) (xs : List ℕ) → All (λ x. a ≤ x) xs → spread_of xs ≡ length xs * sum_by (λ x. square (above a x)) xs - square (sum_by (above a) xs)
spread_above a xs all =
    same_spread (length xs) (sum xs) (sum_by square xs) a (sum_by (above a) xs) (sum_by (λ x. square (above a x)) xs) (sum_above a xs all) (squares_above a xs all)
