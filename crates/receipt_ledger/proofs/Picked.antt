-- How many elements of a list a test picks.
use Rattle.std.proofs.Common.{◌≡◌, ◌≢◌, ℕ, zero, suc, ◌+◌, ◌<◌, ◌≤◌, Bool, true, false, List, [], ◌∷◌, length, get_or}
use Rattle.std.proofs.Common.{refl, sym, ap, ◌∙◌, inl, inr, arith}
use Rattle.std.specs.Prelude.{if◌then◌else◌, count_by, All, AllPairs, Contains}
use Rattle.std.proofs.lemmas.Bool.{cases_Bool, cases_lt}
use Rattle.std.proofs.lemmas.List.{get_or_default}
use Rattle.std.proofs.lemmas.List.Elements.{All-tail, Contains-append_right, Contains-get_or}
use Rattle.std.proofs.lemmas.List.Sums.{get_or-le-sum_by, sum_by-cons}

abbrev pub one_if : Bool → ℕ
one_if b = if b then 1 else 0

pub one : (b : Bool) → b ≡ true → one_if b ≡ 1
one b passes = rw passes refl

pub none : (b : Bool) → b ≡ false → one_if b ≡ 0
none b fails = rw fails refl

pub at_most_one : (b : Bool) → one_if b ≤ 1
at_most_one true = omega arith
at_most_one false = omega arith

pub is_one : (b : Bool) → 1 ≤ one_if b → b ≡ true
is_one true some = refl
is_one false some = absurd (omega (arith, some))

module _ {X : Type 0} (p : X → Bool) where
  pub count-cons : (x : X) (xs : List X) → count_by p (x ∷ xs) ≡ one_if (p x) + count_by p xs
  count-cons x xs = sum_by-cons (λ y. one_if (p y)) x xs

  -- Where no element passes, none is picked.
  pub count-none : (xs : List X) → All (λ x. p x ≡ false) xs → count_by p xs ≡ 0
  count-none [] fails = refl
  count-none (x ∷ xs) fails =
      let more = count-cons x xs in
      let first = none (p x) (fails 0 x (omega arith)) in
      let later = count-none xs (All-tail (λ y. p y ≡ false) x xs fails) in
      omega (arith, more, first, later)

  -- An element that passes is picked.
  pub count-at : (xs : List X) (k : ℕ) (d : X) → k < length xs → p (get_or xs k d) ≡ true → 1 ≤ count_by p xs
  count-at xs k d inside passes =
      let here = get_or-le-sum_by (λ y. one_if (p y)) xs k d inside in
      let counted = one (p (get_or xs k d)) passes in
      omega (arith, here, counted)

  pub count-contained : (xs : List X) (x : X) → Contains xs x → p x ≡ true → 1 ≤ count_by p xs
  count-contained xs x there passes = count-at xs there.0 x there.1 (ap p there.2 ∙ passes)

  -- Where some are picked, there is one.
  pub picked : (xs : List X) → 1 ≤ count_by p xs → (x : X) × Contains xs x × (p x ≡ true)
  picked [] some = absurd (omega (arith, some))
  picked (x ∷ xs) some = elim (cases_Bool (p x)) [
    | inl passes ↦ (x, Contains-get_or (x ∷ xs) 0 x (omega arith), passes)
    | inr fails ↦
        let more = count-cons x xs in
        let first = none (p x) fails in
        let later = picked xs (omega (arith, some, more, first)) in
        (later.0, Contains-append_right (x ∷ []) xs later.0 later.1, later.2)
  ]

  -- Where at most one is picked, two places of such elements are one.
  one-place : (xs : List X) (i j : ℕ) (d : X) → count_by p xs ≤ 1 → i < length xs → j < length xs
      → p (get_or xs i d) ≡ true → p (get_or xs j d) ≡ true → i ≡ j
  one-place [] i j d few in_i in_j first second = absurd (omega (arith, in_i))
  one-place (x ∷ xs) zero zero d few in_i in_j first second = refl
  one-place (x ∷ xs) zero (suc j) d few in_i in_j first second =
      let more = count-cons x xs in
      let here = one (p x) first in
      let later = count-at xs j d (omega (arith, in_j)) second in
      absurd (omega (arith, few, more, here, later))
  one-place (x ∷ xs) (suc i) zero d few in_i in_j first second =
      let more = count-cons x xs in
      let here = one (p x) second in
      let later = count-at xs i d (omega (arith, in_i)) first in
      absurd (omega (arith, few, more, here, later))
  one-place (x ∷ xs) (suc i) (suc j) d few in_i in_j first second =
      let more = count-cons x xs in
      ap (λ n. suc n)
      (one-place xs i j d (omega (arith, few, more)) (omega (arith, in_i)) (omega (arith, in_j)) first second)

  pub one-contained : (xs : List X) (x y : X) → count_by p xs ≤ 1 → Contains xs x → Contains xs y → p x ≡ true
      → p y ≡ true → x ≡ y
  one-contained xs x y few in_x in_y first second =
      let moved : get_or xs in_y.0 x ≡ y = get_or_default xs in_y.0 x y in_y.1 ∙ in_y.2 in
      let place = one-place xs in_x.0 in_y.0 x few in_x.1 in_y.1 (ap p in_x.2 ∙ first) (ap p moved ∙ second) in
      sym in_x.2 ∙ ap (λ n. get_or xs n x) place ∙ moved

  -- Where all that pass are the same, and no two are, at most one is picked.
  pub one-picked : (xs : List X) → AllPairs (λ x y. x ≢ y) xs
      → ((x y : X) → Contains xs x → Contains xs y → p x ≡ true → p y ≡ true → x ≡ y) → count_by p xs ≤ 1
  one-picked xs apart same = elim (cases_lt 1 (count_by p xs)) [
    | inl many ↦ absurd (two xs apart same many)
    | inr few ↦ few
  ]
    where
      two : (xs : List X) → AllPairs (λ x y. x ≢ y) xs
          → ((x y : X) → Contains xs x → Contains xs y → p x ≡ true → p y ≡ true → x ≡ y) → 1 < count_by p xs → ⊥
      two [] apart same many = omega (arith, many)
      two (x ∷ xs) apart same many = elim (cases_Bool (p x)) [
        | inl passes ↦
            let more = count-cons x xs in
            let here = at_most_one (p x) in
            let other = picked xs (omega (arith, many, more, here)) in
            let later : Contains (x ∷ xs) other.0 = Contains-append_right (x ∷ []) xs other.0 other.1 in
            apart 0 (suc other.1.0) other.0 (omega arith) (let inside = other.1.1 in omega (arith, inside))
            (same x other.0 (Contains-get_or (x ∷ xs) 0 x (omega arith)) later passes other.2 ∙ sym other.1.2)
        | inr fails ↦
            let more = count-cons x xs in
            let here = none (p x) fails in
            two xs (λ i j d before inside. apart (suc i) (suc j) d (omega (arith, before)) (omega (arith, inside)))
            (λ y z in_y in_z.
            same y z (Contains-append_right (x ∷ []) xs y in_y) (Contains-append_right (x ∷ []) xs z in_z))
            (omega (arith, many, more, here))
      ]

-- A test that all pass picks all.
pub count-all : {X : Type 0} (xs : List X) → count_by (λ x. true) xs ≡ length xs
count-all [] = refl
count-all (x ∷ xs) =
    let more = count-cons (λ y. true) x xs in
    let later = count-all xs in
    omega (arith, more, later)
