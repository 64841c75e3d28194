-- The first element that passes a test, and what a binary search finds in an ascending list.
use Rattle.std.proofs.Common.{◌≡◌, ℕ, ◌<◌, ◌≤◌, Bool, true, false, suc, zero, List, [], ◌∷◌, length, get_or, Some, None}
use Rattle.std.proofs.Common.{Result, Ok, Err, ⊎_elim, refl, arith}
use Rattle.std.specs.Prelude.{find, ◌==◌, All, MatchResult}
use Rattle.std.specs.Cmp.{ranks}
use Rattle.std.specs.Ordering.{nat_cmp, ordering_index}
use Rattle.std.specs.declared.cmp.Ordering.TheVariants.{Less, Equal, Greater}
use Rattle.std.specs.List.Sorted.{IsBinarySearchResult, IsSearchInRange}
use borrow.Author.Tests.{tests}
use Rattle.std.proofs.lemmas.Bool.{eq-eqb, ne_eqb, cases_lt, cases_Bool}
use Rattle.std.proofs.lemmas.List.Elements.{All-cons, All-nil, All-tail, All-head}
use Rattle.address_map.specs.Words.{IsAscendingBy}
use Rattle.address_map.proofs.Ascending.{IsAscendingBy-head, IsAscendingBy-tail, ascending-rises}

-- None is found exactly where each element fails.
find-none : {X : Type 0} (p : X → Bool) (xs : List X) → All (λ x. p x ≡ false) xs → find p xs ≡ None
find-none p [] fails = refl
find-none p (x ∷ xs) fails =
    let first : p x ≡ false = All-head (λ y. p y ≡ false) x xs fails in
    rw first (find-none p xs (All-tail (λ y. p y ≡ false) x xs fails))

pub All-from_find_none : {X : Type 0} (p : X → Bool) (xs : List X) → find p xs ≡ None → All (λ x. p x ≡ false) xs
All-from_find_none p [] none = All-nil (λ x. p x ≡ false)
All-from_find_none p (x ∷ xs) none =
    ⊎_elim
    (λ passes. let clash : Some x ≡ None = rw passes at none in cc)
    (λ fails. All-cons (λ y. p y ≡ false) x xs fails (All-from_find_none p xs (rw fails at none)))
    (cases_Bool (p x))

-- In an ascending list the element with a number is the first with it.
find-at : {X : Type 0} (n : X → ℕ) (xs : List X) (i : ℕ) (d : X) → IsAscendingBy n xs → i < length xs
    → find (λ x. n x == n (get_or xs i d)) xs ≡ Some (get_or xs i d)
find-at n [] i d ascending inside = absurd (omega arith)
find-at n (x ∷ xs) zero d ascending inside = let same : (n x == n x) ≡ true = eq-eqb (n x) (n x) refl in rw same refl
find-at n (x ∷ xs) (suc i) d ascending inside =
    let here : i < length xs = omega arith in
    let above : n x < n (get_or xs i d) = IsAscendingBy-head n x xs ascending i d here in
    let other : (n x == n (get_or xs i d)) ≡ false = ne_eqb (n x) (n (get_or xs i d)) (λ same. omega arith) in
    rw other (find-at n xs i d (IsAscendingBy-tail n x xs ascending) here)

-- the three answers of a comparison, and that they rise with the number that is compared
less-apart : (a b : ℕ) → nat_cmp a b ≡ Less → (a == b) ≡ false
less-apart a b less = let below : a < b = rw less at (ranks a b) in ne_eqb a b (λ same. omega arith)

greater-apart : (a b : ℕ) → nat_cmp a b ≡ Greater → (a == b) ≡ false
greater-apart a b greater = let above : b < a = rw greater at (ranks a b) in ne_eqb a b (λ same. omega arith)

equal-same : (a b : ℕ) → nat_cmp a b ≡ Equal → a ≡ b
equal-same a b equal = rw equal at (ranks a b)

ordering-rises : (a b w : ℕ) → a ≤ b → ordering_index (nat_cmp a w) ≤ ordering_index (nat_cmp b w)
ordering-rises a b w below = grind (arith, tests)

-- where a binary search for w finds nothing, no element has the number w
missing-apart : {X : Type 0} (n : X → ℕ) (xs : List X) (w i : ℕ) → IsAscendingBy n xs
    → IsBinarySearchResult (λ x. nat_cmp (n x) w) xs (Err i) → All (λ x. (n x == w) ≡ false) xs
missing-apart n xs w i ascending parted k d inside =
    let rises = λ (j l : ℕ) (e : _) (below : j ≤ l) (last : l < length xs).
    ordering-rises (n (get_or xs j e)) (n (get_or xs l e)) w (ascending-rises n xs ascending j l e below last) in
    let parts = parted rises in
    ⊎_elim
    (λ before. less-apart (n (get_or xs k d)) w (parts.0 k d (omega arith) before))
    (λ behind. greater-apart (n (get_or xs k d)) w (parts.1 k d behind inside))
    (cases_lt k i)

-- What a binary search for a number finds in an ascending list is the first element with it.
pub find-searched : {X : Type 0} (n : X → ℕ) (xs : List X) (w : ℕ) (d : X) (searched : Result ℕ ℕ) → IsAscendingBy n xs
    → IsSearchInRange searched (length xs) → IsBinarySearchResult (λ x. nat_cmp (n x) w) xs searched
    → MatchResult searched (λ i. find (λ x. n x == w) xs ≡ Some (get_or xs i d)) (λ _. find (λ x. n x == w) xs ≡ None)
find-searched n xs w d (Ok i) ascending inside equal =
    let same : n (get_or xs i d) ≡ w = equal-same (n (get_or xs i d)) w (equal d) in
    rw (← same) (find-at n xs i d ascending inside)
find-searched n xs w d (Err i) ascending inside parted =
    find-none (λ x. n x == w) xs (missing-apart n xs w i ascending parted)
