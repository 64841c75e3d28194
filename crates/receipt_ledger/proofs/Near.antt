-- A list is searched from a place outwards.
use Rattle.std.proofs.Common.{◌≡◌, ℕ, ◌+◌, ◌-◌, ◌<◌, ◌≤◌, ◌⊎◌, List, length, Some, inl, inr, ap, ◌∙◌, subst, arith}
use Rattle.std.specs.Prelude.{slice_get, Contains}
use Rattle.std.proofs.lemmas.Bool.{cases_lt}
use Rattle.std.proofs.lemmas.Option.{get_or_from_slice_get, slice_get-get_or, slice_get_within}

module _ {X : Type 0} (xs : List X) (x : X) where
  pub contained-at : (there : Contains xs x) → slice_get xs there.0 ≡ Some x
  contained-at there = slice_get-get_or xs there.0 x there.1 ∙ ap (λ y. Some y) there.2

  pub contained-from : (i : ℕ) → slice_get xs i ≡ Some x → Contains xs x
  contained-from i there = (i, slice_get_within xs i x there, get_or_from_slice_get xs i x x there)

  module _ (place : ℕ) where
    -- It isn't among those that are nearer to the place than this.
    abbrev pub NotNearer : ℕ → Type 0
    NotNearer distance = (i : ℕ) → place ≤ i + distance → i < place + distance → slice_get xs i ≡ Some x → ⊥

    -- It is `distance` from the place, after it or before it.
    abbrev pub IsSoFar : ℕ → Type 0
    IsSoFar distance =
        (slice_get xs (place + distance) ≡ Some x)
        ⊎ ((distance < place) × (slice_get xs (place - distance - 1) ≡ Some x))

    pub not-nearest : NotNearer 0
    not-nearest i from before there = omega (arith, from, before)

    pub not-further : (distance : ℕ) → NotNearer distance → (IsSoFar distance → ⊥) → NotNearer (distance + 1)
    not-further distance none fails i from before there = elim (cases_lt i (place + distance)) [
      | inl below ↦ elim (cases_lt (i + distance) place) [
        | inl short ↦
            let within : distance < place = omega (arith, short) in
            let here : i ≡ place - distance - 1 = omega (arith, short, from) in
            fails (inr (within, subst (λ n. slice_get xs n ≡ Some x) here there))
        | inr near ↦ none i near below there
      ]
      | inr past ↦
          let here : i ≡ place + distance = omega (arith, past, before) in
          fails (inl (subst (λ n. slice_get xs n ≡ Some x) here there))
    ]

    pub so-far-contained : (distance : ℕ) → IsSoFar distance → Contains xs x
    so-far-contained distance is = elim is [
      | inl after ↦ contained-from (place + distance) after
      | inr before ↦ contained-from (place - distance - 1) before.1
    ]

    -- It is nowhere, where it isn't nearer than the list is long.
    pub not-contained : (distance : ℕ) → place ≤ length xs → length xs ≤ distance → NotNearer distance
        → Contains xs x → ⊥
    not-contained distance inside past none there =
        let within = there.1 in
        none there.0 (omega (arith, inside, past, within)) (omega (arith, past, within)) (contained-at there)
