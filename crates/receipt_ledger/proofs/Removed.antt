-- A list whose elements differ, without one of them.
use Rattle.std.proofs.Common.{◌≡◌, ◌≢◌, ℕ, ◌+◌, ◌-◌, ◌<◌, List, length, get_or, sym, ap, ◌∙◌, ⊎_elim, arith}
use Rattle.std.specs.Prelude.{AllPairs, Contains}
use Rattle.std.specs.List.{remove}
use Rattle.std.proofs.lemmas.Bool.{cases_eq, cases_lt}
use Rattle.std.proofs.lemmas.List.{get_or_default}
use Rattle.std.proofs.lemmas.List.Edits.{get_or-remove_above, get_or-remove_below, length-remove}

module _ {X : Type 0} (xs : List X) (i : ℕ) (r : X) (within : i < length xs) (at : get_or xs i r ≡ r)
    (once : AllPairs (λ x y. x ≢ y) xs) where
  short : length (remove xs i) + 1 ≡ length xs
  short = length-remove xs i within

  -- What is left was there.
  pub was-contained : (x : X) → Contains (remove xs i) x → Contains xs x
  was-contained x there =
      let len = short in
      let inside = there.1 in
      ⊎_elim
      (λ below. (there.0, omega (arith, inside, len), sym (get_or-remove_below xs i x there.0 below within) ∙ there.2))
      (λ above.
      (there.0 + 1, omega (arith, inside, len), sym (get_or-remove_above xs i x there.0 above within) ∙ there.2))
      (cases_lt there.0 i)

  -- What was removed is there no more.
  pub not-contained : (x : X) → Contains (remove xs i) x → x ≢ r
  not-contained x there is =
      let len = short in
      let inside = there.1 in
      ⊎_elim
      (λ below.
      once there.0 i x below within
      ((sym (get_or-remove_below xs i x there.0 below within) ∙ there.2) ∙ is ∙ sym at
      ∙ get_or_default xs i r x within))
      (λ above.
      once i (there.0 + 1) x (omega (arith, above)) (omega (arith, inside, len))
      (get_or_default xs i x r within ∙ at ∙ sym is
      ∙ sym (sym (get_or-remove_above xs i x there.0 above within) ∙ there.2)))
      (cases_lt there.0 i)

  -- Anything else is left.
  pub still-contained : (x : X) → Contains xs x → x ≢ r → Contains (remove xs i) x
  still-contained x there apart =
      let len = short in
      let inside = there.1 in
      ⊎_elim
      (λ below. (there.0, omega (arith, below, len, within), get_or-remove_below xs i x there.0 below within ∙ there.2))
      (λ above.
      ⊎_elim
      (λ (same : there.0 ≡ i).
      absurd (apart (sym there.2 ∙ ap (λ k. get_or xs k x) same ∙ get_or_default xs i x r within ∙ at)))
      (λ (other : there.0 ≢ i).
      let one : there.0 - 1 + 1 ≡ there.0 = omega (arith, above, other) in (
        there.0 - 1,
        omega (arith, above, other, inside, len),
        get_or-remove_above xs i x (there.0 - 1) (omega (arith, above, other)) within ∙ ap (λ k. get_or xs k x) one
            ∙ there.2,
      ))
      (cases_eq there.0 i))
      (cases_lt there.0 i)
