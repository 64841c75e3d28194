-- A list of which at most one element passes a test: what is there is the one that the test finds.
use Rattle.std.proofs.Common.{◌≡◌, ◌≢◌, ℕ, ◌<◌, Bool, true, false, List, [], ◌∷◌, length, get_or, set, map, filter}
use Rattle.std.proofs.Common.{None, suc, zero, refl, sym, ◌∙◌, arith, not, nat_lt, inl, inr}
use Rattle.std.specs.Prelude.{position, remove}
use Rattle.std.specs.List.{position_or_len}
use Rattle.std.proofs.lemmas.Bool.{cases_lt, lt-ltb}
use Rattle.std.proofs.lemmas.List.Sums.{prefix_len_passes}
use Rattle.std.proofs.lemmas.Option.{none-some}

module _ {X : Type 0} (test : X → Bool) where
  -- the element at this place passes the test, and no other
  pub record PassesOnlyAt (xs : List X) (place : ℕ) : Type 0 where
    pub within : place < length xs
    pub there : (d : X) → test (get_or xs place d) ≡ true
    pub elsewhere : (k : ℕ) (d : X) → k < length xs → k ≢ place → test (get_or xs k d) ≡ false

  -- none of the elements passes
  abbrev pub NonePasses : List X → Type 0
  NonePasses xs = (k : ℕ) (d : X) → k < length xs → test (get_or xs k d) ≡ false

  pub none-later : (x : X) (xs : List X) → NonePasses (x ∷ xs) → NonePasses xs
  none-later x xs none k d within = none (suc k) d (omega arith)

  none-behind : (x : X) (xs : List X) → PassesOnlyAt (x ∷ xs) 0 → NonePasses xs
  none-behind x xs only k d within = only.elsewhere (suc k) d (omega arith) (omega arith)

  pub only-later : (x : X) (xs : List X) (place : ℕ) → PassesOnlyAt (x ∷ xs) (suc place) → PassesOnlyAt xs place
  only-later x xs place only = record {
    within = let inside = only.within in omega (arith, inside);
    there = λ d. only.there d;
    elsewhere = λ k d inside apart. only.elsewhere (suc k) d (omega arith) (omega arith);
  }

  -- what doesn't pass isn't left out
  pub filter-none : (xs : List X) → NonePasses xs → filter (λ x. not (test x)) xs ≡ xs
  filter-none [] none = refl
  filter-none (x ∷ xs) none =
      let first : test x ≡ false = none 0 x (omega arith) in
      rw (first, filter-none xs (none-later x xs none)) refl

  -- the one that passes is taken out
  pub remove-only : (xs : List X) (place : ℕ) → PassesOnlyAt xs place → remove xs place ≡ filter (λ x. not (test x)) xs
  remove-only [] place only = absurd (let inside = only.within in omega (arith, inside))
  remove-only (x ∷ xs) zero only =
      let first : test x ≡ true = only.there x in
      rw (first, filter-none xs (none-behind x xs only)) refl
  remove-only (x ∷ xs) (suc place) only =
      let first : test x ≡ false = only.elsewhere 0 x (omega arith) (omega arith) in
      rw (first, ← remove-only xs place (only-later x xs place only)) refl

  -- a change of what passes changes nothing where none passes
  pub map-none : (change : X → X) → ((x : X) → test x ≡ false → change x ≡ x) → (xs : List X) → NonePasses xs
      → map change xs ≡ xs
  map-none change keeps [] none = refl
  map-none change keeps (x ∷ xs) none =
      let first : change x ≡ x = keeps x (none 0 x (omega arith)) in
      rw (first, map-none change keeps xs (none-later x xs none)) refl

  -- the one that passes is changed in its place
  pub set-only : (change : X → X) → ((x : X) → test x ≡ false → change x ≡ x) → (xs : List X) (place : ℕ) (d : X)
      → PassesOnlyAt xs place → set xs place (change (get_or xs place d)) ≡ map change xs
  set-only change keeps [] place d only = absurd (let inside = only.within in omega (arith, inside))
  set-only change keeps (x ∷ xs) zero d only = rw (map-none change keeps xs (none-behind x xs only)) refl
  set-only change keeps (x ∷ xs) (suc place) d only =
      let first : change x ≡ x = keeps x (only.elsewhere 0 x (omega arith) (omega arith)) in
      rw (first, set-only change keeps xs place d (only-later x xs place only)) refl

  -- no element passes where the search finds none
  pub none-passes : (xs : List X) → position test xs ≡ None → NonePasses xs
  none-passes xs missing k d within =
      elim (cases_lt (position_or_len test xs) (length xs)) [
        | inl found ↦ let passing : nat_lt (position_or_len test xs) (length xs) ≡ true = lt-ltb _ _ found in
            absurd (none-some (position_or_len test xs) (sym missing ∙ rw passing refl))
        | inr past ↦ not-true (test (get_or xs k d)) (prefix_len_passes (λ x. not (test x)) xs k d (omega arith))
      ]
    where
      not-true : (b : Bool) → not b ≡ true → b ≡ false
      not-true true h = sym h
      not-true false h = refl
