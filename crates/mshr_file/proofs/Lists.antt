-- Lists: what a filter drops and a count passes over, and the first place that passes a test.
use Rattle.std.proofs.Common.{◌≡◌, ℕ, zero, suc, ◌+◌, ◌<◌, ◌≤◌, Bool, true, false, length, if◌then◌else◌, List, [], ◌∷◌}
use Rattle.std.proofs.Common.{◌++◌, filter, Some, None, refl, sym, ap, ⊎_elim, arith, ◌∙◌, map, get_or}
use Rattle.std.specs.Prelude.{sum_by, ◌&&◌, All, IsTrue, IsSome, is_some, nat_lt}
use Rattle.std.specs.List.{flat_map, count_by, find, list_any, position, position_or_len, prefix_len, remove}
use Rattle.std.proofs.lemmas.List.{length-map}
use Rattle.std.proofs.lemmas.Bool.{cases_Bool, lt-ltb, le-ltb}
use Rattle.std.proofs.lemmas.List.Elements.{All-cons, All-nil}
use Rattle.std.proofs.lemmas.List.Sums.{sum_by-cons}

pub one-if : (b c : Bool) → b ≡ c → ◌≡◌ {A = ℕ} (if b then 1 else 0) (if c then 1 else 0)
one-if b c same = rw same refl

pub zero-if : (b c : Bool) → b ≡ c → ◌≡◌ {A = ℕ} (if b then 0 else 1) (if c then 0 else 1)
zero-if b c same = rw same refl

pub either-one : (b : Bool) → ◌≡◌ {A = ℕ} ((if b then 0 else 1) + (if b then 1 else 0)) 1
either-one true = refl
either-one false = refl

module _ {X : Type 0} where
  pub flat_map-filter : {Y : Type 0} (f : X → List Y) (p : X → Bool) → ((x : X) → p x ≡ false → f x ≡ []) →
      (xs : List X) → flat_map f (filter p xs) ≡ flat_map f xs
  flat_map-filter f p nothing [] = refl
  flat_map-filter f p nothing (x ∷ xs) =
      ⊎_elim
      (λ kept. rw kept (ap (λ ys. f x ++ ys) (flat_map-filter f p nothing xs)))
      (λ dropped. rw dropped (rw (nothing x dropped) (flat_map-filter f p nothing xs)))
      (cases_Bool (p x))

  pub sum_by-filter : (f : X → ℕ) (p : X → Bool) → ((x : X) → p x ≡ false → f x ≡ 0) →
      (xs : List X) → sum_by f (filter p xs) ≡ sum_by f xs
  sum_by-filter f p nothing [] = refl
  sum_by-filter f p nothing (x ∷ xs) =
      let later = sum_by-filter f p nothing xs in
      let all = sum_by-cons f x xs in
      ⊎_elim
      (λ kept. rw kept (let first = sum_by-cons f x (filter p xs) in omega (arith, later, all, first)))
      (λ dropped. rw dropped (let none = nothing x dropped in omega (arith, later, all, none)))
      (cases_Bool (p x))

  pub filter_passes : (p : X → Bool) (xs : List X) → All (λ x. IsTrue (p x)) (filter p xs)
  filter_passes p [] = All-nil _
  filter_passes p (x ∷ xs) =
      ⊎_elim
      (λ kept. rw kept (All-cons (λ y. IsTrue (p y)) x (filter p xs) kept (filter_passes p xs)))
      (λ dropped. rw dropped (filter_passes p xs))
      (cases_Bool (p x))

  pub count_by-yes : (p : X → Bool) (x : X) (xs : List X) → p x ≡ true → count_by p (x ∷ xs) ≡ 1 + count_by p xs
  count_by-yes p x xs passes =
      let all = sum_by-cons (λ y. if p y then 1 else 0) x xs in
      let one = one-if (p x) true passes in
      omega (arith, all, one)

  pub count_by-no : (p : X → Bool) (x : X) (xs : List X) → p x ≡ false → count_by p (x ∷ xs) ≡ count_by p xs
  count_by-no p x xs fails =
      let all = sum_by-cons (λ y. if p y then 1 else 0) x xs in
      let none = one-if (p x) false fails in
      omega (arith, all, none)

  pub count_by-filter : (p q : X → Bool) (xs : List X) → count_by p (filter q xs) ≡ count_by (λ x. q x && p x) xs
  count_by-filter p q [] = refl
  count_by-filter p q (x ∷ xs) =
      let later = count_by-filter p q xs in
      ⊎_elim
      (λ kept.
      let same : filter q (x ∷ xs) ≡ x ∷ filter q xs = rw kept refl in
      let both : (q x && p x) ≡ p x = rw kept refl in
      ap (count_by p) same ∙ counted (filter q xs) later both)
      (λ dropped.
      let same : filter q (x ∷ xs) ≡ filter q xs = rw dropped refl in
      let none : (q x && p x) ≡ false = rw dropped refl in
      ap (count_by p) same ∙ later ∙ sym (count_by-no (λ y. q y && p y) x xs none))
      (cases_Bool (q x))
    where
      counted : (ys : List X) → count_by p ys ≡ count_by (λ y. q y && p y) xs → (q x && p x) ≡ p x
          → count_by p (x ∷ ys) ≡ count_by (λ y. q y && p y) (x ∷ xs)
      counted ys later both =
          ⊎_elim
          (λ passes.
          let here = count_by-yes p x ys passes in
          let there = count_by-yes (λ y. q y && p y) x xs (both ∙ passes) in
          omega (arith, here, there, later))
          (λ fails.
          let here = count_by-no p x ys fails in
          let there = count_by-no (λ y. q y && p y) x xs (both ∙ fails) in
          omega (arith, here, there, later))
          (cases_Bool (p x))

  -- What a list has is found, and is where it is found.
  pub first-inside : (p : X → Bool) (xs : List X) → list_any p xs ≡ true → position_or_len p xs < length xs
  first-inside p [] there = absurd cc
  first-inside p (x ∷ xs) there =
      ⊎_elim
      (λ passes. let none : position_or_len p (x ∷ xs) ≡ 0 = rw passes refl in omega (arith, none))
      (λ fails.
      let later = first-inside p xs (rw fails at there) in
      let next : position_or_len p (x ∷ xs) ≡ 1 + position_or_len p xs = rw fails refl in
      omega (arith, later, next))
      (cases_Bool (p x))

  pub position_found : (p : X → Bool) (xs : List X) → list_any p xs ≡ true → IsSome (position p xs)
  position_found p xs there = let inside : nat_lt (position_or_len p xs) (length xs) ≡ true =
      lt-ltb _ _ (first-inside p xs there) in rw inside refl

  -- What a list does not have is not found.
  past-all : (p : X → Bool) (xs : List X) → list_any p xs ≡ false → position_or_len p xs ≡ length xs
  past-all p [] none = refl
  past-all p (x ∷ xs) none =
      ⊎_elim
      (λ passes. let clash : true ≡ false = rw passes at none in absurd cc)
      (λ fails.
      let later = past-all p xs (rw fails at none) in
      let next : position_or_len p (x ∷ xs) ≡ 1 + position_or_len p xs = rw fails refl in
      omega (arith, later, next))
      (cases_Bool (p x))

  pub position_none : (p : X → Bool) (xs : List X) → list_any p xs ≡ false → position p xs ≡ None
  position_none p xs none =
      let past : nat_lt (position_or_len p xs) (length xs) ≡ false =
      not_less (position_or_len p xs) (length xs) (past-all p xs none) in
      rw past refl
    where
      not_less : (m n : ℕ) → m ≡ n → nat_lt m n ≡ false
      not_less m n same = le-ltb m n (omega (arith, same))

  -- Whether an element is found is whether there is one.
  pub found-any : (p : X → Bool) (xs : List X) → is_some (position p xs) ≡ list_any p xs
  found-any p xs =
      ⊎_elim
      (λ there. position_found p xs there ∙ sym there)
      (λ none. ap is_some (position_none p xs none) ∙ sym none)
      (cases_Bool (list_any p xs))

  -- A test that passes less counts no more.
  pub count_by-fewer : (p q : X → Bool) → ((x : X) → p x ≡ true → q x ≡ true) → (xs : List X) →
      count_by p xs ≤ count_by q xs
  count_by-fewer p q more [] = omega arith
  count_by-fewer p q more (x ∷ xs) =
      let later = count_by-fewer p q more xs in
      ⊎_elim
      (λ passes.
      let one = count_by-yes p x xs passes in
      let also = count_by-yes q x xs (more x passes) in
      omega (arith, later, one, also))
      (λ fails.
      let none = count_by-no p x xs fails in
      let any = sum_by-cons (λ y. if q y then 1 else 0) x xs in
      omega (arith, later, none, any))
      (cases_Bool (p x))

  pub place_is : (p : X → Bool) (xs : List X) (i : ℕ) → position p xs ≡ Some i → i ≡ position_or_len p xs
  place_is p xs i found =
      ⊎_elim
      (λ inside. let place : Some (position_or_len p xs) ≡ Some i = rw inside at found in cc)
      (λ outside. let none : None ≡ Some i = rw outside at found in absurd cc)
      (cases_Bool (nat_lt (position_or_len p xs) (length xs)))

-- A test of what a function gives passes where a test of what it is given passes.
module _ {X Y : Type 0} (f : X → Y) (p : Y → Bool) (q : X → Bool) (same : (x : X) → p (f x) ≡ q x) where
  pub any-map : (xs : List X) → list_any p (map f xs) ≡ list_any q xs
  any-map [] = refl
  any-map (x ∷ xs) = rw (same x) (rw (any-map xs) refl)

  pub filter-map : (xs : List X) → filter p (map f xs) ≡ map f (filter q xs)
  filter-map [] = refl
  filter-map (x ∷ xs) =
      ⊎_elim
      (λ yes. let also : p (f x) ≡ true = same x ∙ yes in rw also (rw yes (ap (λ ys. f x ∷ ys) (filter-map xs))))
      (λ no. let also : p (f x) ≡ false = same x ∙ no in rw also (rw no (filter-map xs)))
      (cases_Bool (q x))

  pub kept-map : (xs : List X) → length (filter p (map f xs)) ≡ length (filter q xs)
  kept-map xs = ap length (filter-map xs) ∙ length-map (filter q xs) f

  pub place-map : (xs : List X) → position_or_len p (map f xs) ≡ position_or_len q xs
  place-map [] = refl
  place-map (x ∷ xs) = rw (same x) (rw (place-map xs) refl)

  pub position-map : (xs : List X) → position p (map f xs) ≡ position q xs
  position-map xs = rw (place-map xs) (rw (length-map xs f) refl)

  pub prefix-map : (xs : List X) → prefix_len p (map f xs) ≡ prefix_len q xs
  prefix-map [] = refl
  prefix-map (x ∷ xs) = rw (same x) (rw (prefix-map xs) refl)

module _ {X : Type 0} where
  -- What is not there is not found, and the other way round.
  pub find_none : (p : X → Bool) (xs : List X) → list_any p xs ≡ false → find p xs ≡ None
  find_none p [] none = refl
  find_none p (x ∷ xs) none =
      ⊎_elim
      (λ yes. let clash : true ≡ false = rw yes at none in absurd cc)
      (λ no. rw no (find_none p xs (rw no at none)))
      (cases_Bool (p x))

  pub found_or_not : (p : X → Bool) (xs : List X) → is_some (find p xs) ≡ list_any p xs
  found_or_not p [] = refl
  found_or_not p (x ∷ xs) = ⊎_elim (λ yes. rw yes refl) (λ no. rw no (found_or_not p xs)) (cases_Bool (p x))

  pub none_counted : (p : X → Bool) (xs : List X) → count_by p xs ≡ 0 → list_any p xs ≡ false
  none_counted p [] none = refl
  none_counted p (x ∷ xs) none =
      ⊎_elim
      (λ yes. let all = count_by-yes p x xs yes in absurd (omega (arith, all, none)))
      (λ no. let all = count_by-no p x xs no in rw no (none_counted p xs (omega (arith, all, none))))
      (cases_Bool (p x))

  -- What fails a test is not what is found by it.
  pub find-remove : (p : X → Bool) (xs : List X) (i : ℕ) (d : X) → i < length xs → p (get_or xs i d) ≡ false →
      find p (remove xs i) ≡ find p xs
  find-remove p [] i d inside fails = absurd (omega (arith, inside))
  find-remove p (x ∷ xs) zero d inside fails = let no : p x ≡ false = fails in rw no refl
  find-remove p (x ∷ xs) (suc i) d inside fails =
      ap (λ rest. if p x then Some x else rest) (find-remove p xs i d (omega (arith, inside)) fails)

  pub map-remove : {Y : Type 0} (f : X → Y) (xs : List X) (i : ℕ) → map f (remove xs i) ≡ remove (map f xs) i
  map-remove f [] zero = refl
  map-remove f [] (suc i) = refl
  map-remove f (x ∷ xs) zero = refl
  map-remove f (x ∷ xs) (suc i) = ap (λ rest. f x ∷ rest) (map-remove f xs i)
