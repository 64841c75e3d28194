-- Lists that ascend strictly by a number of each element.
use Rattle.std.proofs.Common.{◌≡◌, ℕ, ◌+◌, ◌<◌, ◌≤◌, Bool, true, false, suc, zero, List, [], ◌∷◌, length, get_or}
use Rattle.std.proofs.Common.{⊎_elim, refl, sym, add-one, arith}
use Rattle.std.specs.Prelude.{nat_lt, All}
use Rattle.std.specs.List.{IsAllAdjacentAnswer, AllAdjacentBelow}
use Rattle.std.proofs.lemmas.Bool.{ltb-true, and_parts, and_right, cases_eq}
use Rattle.std.proofs.lemmas.List.Kept.{AllPairs-cons}
use Rattle.std.proofs.lemmas.List.Elements.{All-cons, All-weaker}
use Rattle.address_map.specs.Words.{is_ascending_by, IsAscendingBy}

-- Each later element is above the first, and the later ones ascend.
pub IsAscendingBy-head : {X : Type 0} (n : X → ℕ) (x : X) (xs : List X) → IsAscendingBy n (x ∷ xs)
    → All (λ y. n x < n y) xs
IsAscendingBy-head n x xs ascending k d inside = ascending 0 (suc k) d (omega arith) (omega arith)

pub IsAscendingBy-tail : {X : Type 0} (n : X → ℕ) (x : X) (xs : List X) → IsAscendingBy n (x ∷ xs) → IsAscendingBy n xs
IsAscendingBy-tail n x xs ascending i j d before inside = ascending (suc i) (suc j) d (omega arith) (omega arith)

IsAscendingBy-cons : {X : Type 0} (n : X → ℕ) (x y : X) (xs : List X)
    → n x < n y → IsAscendingBy n (y ∷ xs) → IsAscendingBy n (x ∷ y ∷ xs)
IsAscendingBy-cons n x y xs below ascending =
    let later =
    All-weaker (λ z. n y < n z) (λ z. n x < n z) (λ z above. omega arith) xs (IsAscendingBy-head n y xs ascending) in
    AllPairs-cons (λ a b. n a < n b) x (y ∷ xs) (All-cons (λ z. n x < n z) y xs below later) ascending

-- what the test says
pub IsAscendingBy-from_test : {X : Type 0} (n : X → ℕ) (xs : List X) → is_ascending_by n xs ≡ true → IsAscendingBy n xs
IsAscendingBy-from_test n [] ascending = λ i j d before inside. absurd (omega arith)
IsAscendingBy-from_test n (x ∷ []) ascending = λ i j d before inside. absurd (omega arith)
IsAscendingBy-from_test n (x ∷ y ∷ xs) ascending =
    let parts = and_parts (nat_lt (n x) (n y)) (is_ascending_by n (y ∷ xs)) ascending in
    IsAscendingBy-cons n x y xs (ltb-true (n x) (n y) parts.0) (IsAscendingBy-from_test n (y ∷ xs) parts.1)

-- the same over places, where two places may be one
pub ascending-rises : {X : Type 0} (n : X → ℕ) (xs : List X) → IsAscendingBy n xs
    → (i j : ℕ) (d : X) → i ≤ j → j < length xs → n (get_or xs i d) ≤ n (get_or xs j d)
ascending-rises n xs ascending i j d below inside =
    ⊎_elim (λ same. rw same (omega arith)) (λ apart. omega (arith, ascending i j d (omega arith) inside)) (cases_eq i j)

-- what `is_sorted_by` returns: that all neighbours ascend, or a place where they don't
test-all_adjacent : {X : Type 0} (n : X → ℕ) (xs : List X)
    → AllAdjacentBelow (λ a b. true ≡ nat_lt (n a) (n b)) xs (length xs) → is_ascending_by n xs ≡ true
test-all_adjacent n [] adjacent = refl
test-all_adjacent n (x ∷ []) adjacent = refl
test-all_adjacent n (x ∷ y ∷ xs) adjacent =
    let first : nat_lt (n x) (n y) ≡ true = sym (adjacent 0 x (omega arith)) in
    rw first (test-all_adjacent n (y ∷ xs)
    (λ k d inside. rw add-one (rw add-one at (adjacent (suc k) d (omega arith)))))

test-falls_at : {X : Type 0} (n : X → ℕ) (xs : List X) (k : ℕ) → k + 1 < length xs
    → ((d : X) → false ≡ nat_lt (n (get_or xs k d)) (n (get_or xs (k + 1) d))) → is_ascending_by n xs ≡ false
test-falls_at n [] k inside falls = absurd (omega arith)
test-falls_at n (x ∷ []) k inside falls = absurd (omega arith)
test-falls_at n (x ∷ y ∷ xs) zero inside falls = let first : nat_lt (n x) (n y) ≡ false = sym (falls x) in rw first refl
test-falls_at n (x ∷ y ∷ xs) (suc k) inside falls =
    let later = test-falls_at n (y ∷ xs) k (omega arith) (λ d. rw add-one (rw add-one at (falls d))) in
    and_right (nat_lt (n x) (n y)) (is_ascending_by n (y ∷ xs)) later

pub test-from_is_sorted : {X : Type 0} (n : X → ℕ) (xs : List X) (sorted : Bool)
    → IsAllAdjacentAnswer (λ a b r. r ≡ nat_lt (n a) (n b)) xs sorted → sorted ≡ is_ascending_by n xs
test-from_is_sorted n xs true adjacent = sym (test-all_adjacent n xs adjacent)
test-from_is_sorted n xs false falls = sym (test-falls_at n xs falls.0 falls.1 falls.2)
