-- What the list of a slice's words says of each of them.
use Rattle.std.proofs.Common.{◌≡◌, ◌≢◌, ◌⊎◌, ℕ, zero, suc, ◌+◌, ◌*◌, ◌/◌, ◌%◌, ◌<◌, ◌==◌, Bool, true, false, List, []}
use Rattle.std.proofs.Common.{◌∷◌, length, get_or, find, map, Some, inl, inr, arith, refl, sym, ap, ◌∙◌, subst}
use Rattle.std.proofs.lemmas.Bool.{eq-eqb, ne_eqb}
use Rattle.std.proofs.lemmas.List.FromFn.{get_or-map-range_with_len, length-map-range_with_len}
use Rattle.std.specs.List.{range_with_len}
use Rattle.std.specs.Option.{option_map_or}
use Rattle.address_map.specs.Locator.{IsOfMachine}
use Rattle.address_map.specs.declared.address.Local.{Local}
use Rattle.address_map.specs.declared.address.WordAddr.{WordAddr}
use Rattle.slice_core_spec.specs.View.{View, first_word, word_now}
use Rattle.slice_core_exec.specs.NewLog.{word_of, words_now}
use Rattle.slice_log.specs.Log.{initially}

-- The first element that passes is found.
find-first : {X : Type 0} (p : X → Bool) (xs : List X) (k : ℕ) (d : X) → k < length xs → p (get_or xs k d) ≡ true
    → ((j : ℕ) → j < k → p (get_or xs j d) ≡ false) → find p xs ≡ Some (get_or xs k d)
find-first p [] k d inside passes fails = absurd (omega (arith, inside))
find-first p (x ∷ xs) zero d inside passes fails = rw passes refl
find-first p (x ∷ xs) (suc k) d inside passes fails =
    rw (fails 0 (omega arith))
    (find-first p xs k d (omega (arith, inside)) passes (λ j before. fails (suc j) (omega (arith, before))))

-- Two places of a slice have two words.
words_apart : (slices slice line i j : ℕ) → (slices ≡ 1) ⊎ (slices ≡ 2) ⊎ (slices ≡ 4) → i < 8 → j < 8 * line + i
    → 8 * (j / 8 * slices + slice) + j % 8 ≢ 8 * (line * slices + slice) + 0 + i
words_apart slices slice line i j few below before = elim few [
  | inl one ↦ at 1 one (λ same. omega (arith, same, below, before))
  | inr more ↦ elim more [
    | inl two ↦ at 2 two (λ same. omega (arith, same, below, before))
    | inr four ↦ at 4 four (λ same. omega (arith, same, below, before))
  ]
]
  where
    at : (n : ℕ) → slices ≡ n → (8 * (j / 8 * n + slice) + j % 8 ≢ 8 * (line * n + slice) + 0 + i)
        → 8 * (j / 8 * slices + slice) + j % 8 ≢ 8 * (line * slices + slice) + 0 + i
    at n is apart = subst (λ s. 8 * (j / 8 * s + slice) + j % 8 ≢ 8 * (line * s + slice) + 0 + i) (sym is) apart

module _ (v : View) (machine : IsOfMachine v.lines) (local : Local) (i : ℕ) (inside : local.0 < v.lines.lines)
    (below : i < 8) where
  abbrev count : ℕ
  count = 8 * v.lines.lines

  abbrev place : ℕ
  place = 8 * local.0 + i

  abbrev word : ℕ
  word = first_word v local + i

  abbrev passes : WordAddr × ℕ → Bool
  passes pair = pair.0.0 == word

  within_place : place < count
  within_place = omega (arith, inside, below)

  within : place < length (words_now v)
  within = let long = length-map-range_with_len (word_of v) 0 (8 * v.lines.lines) in let here = within_place in
      omega (arith, long, here)

  is : (k : ℕ) → k < count → get_or (words_now v) k (word_of v 0) ≡ word_of v k
  is k less = get_or-map-range_with_len (word_of v) 0 (8 * v.lines.lines) k k (word_of v 0) less (omega arith)

  line_is : place / 8 ≡ local.0
  line_is = omega (arith, below)

  offset_is : place % 8 ≡ i
  offset_is = omega (arith, below)

  value_is : (word_of v place).1 ≡ word_now v local i
  value_is =
      ap (λ n. word_now v (record { 0 = n }) (place % 8)) line_is ∙ ap (λ n. word_now v local n) offset_is

  here : passes (get_or (words_now v) place (word_of v 0)) ≡ true
  here =
      ap passes (is place within_place)
      ∙ eq-eqb _ _
      (ap (λ n. 8 * (n * v.lines.slices + v.lines.slice) + place % 8) line_is
      ∙ ap (λ n. 8 * (local.0 * v.lines.slices + v.lines.slice) + n) offset_is
      ∙ omega arith)

  earlier : (j : ℕ) → j < place → passes (get_or (words_now v) j (word_of v 0)) ≡ false
  earlier j before =
      let less = within_place in
      ap passes (is j (omega (arith, before, less)))
      ∙ ne_eqb _ _ (words_apart v.lines.slices v.lines.slice local.0 i j machine.few_slices below before)

  -- The word begins, by the list, with the value that it has.
  pub initially-now : initially (words_now v) (first_word v local + i) ≡ word_now v local i
  initially-now =
      ap (λ found. option_map_or (λ (pair : WordAddr × ℕ). pair.1) found 0)
      (find-first passes (words_now v) place (word_of v 0) within here earlier ∙ ap Some (is place within_place))
      ∙ value_is
