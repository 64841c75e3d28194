-- Lists that are made one item after another: the items that are there, and the rest.
use Rattle.std.proofs.Common.{◌≡◌, ℕ, suc, ◌+◌, ◌-◌, ◌<◌, Bool, true, false, List, [], ◌∷◌, ◌++◌, drop, get_or}
use Rattle.std.proofs.Common.{length, map, Option, Some, None, refl, sym, ap, ◌∙◌, append_assoc, arith}
use Rattle.std.specs.Prelude.{filter, filter_map}
use Rattle.std.specs.List.{flat_map, range_with_len}
use Rattle.std.proofs.lemmas.List.{drop_more}

module _ {X : Type 0} where
  -- the first of the rest is there now
  pub one-more : (all now new rest : List X) (x : X) → all ≡ now ++ x ∷ rest → new ≡ now ++ x ∷ [] → all ≡ new ++ rest
  one-more all now new rest x whole pushed =
      whole ∙ sym (append_assoc now (x ∷ []) rest) ∙ ap (λ xs. xs ++ rest) (sym pushed)

  -- some of the rest are there now
  pub some-more : (all now new some rest : List X) → all ≡ now ++ (some ++ rest) → new ≡ now ++ some → all ≡ new ++ rest
  some-more all now new some rest whole pushed =
      whole ∙ sym (append_assoc now some rest) ∙ ap (λ xs. xs ++ rest) (sym pushed)

-- the numbers from one on, the first of them before the others
pub range-next : (i n : ℕ) → i < n → range_with_len i (n - i) ≡ i ∷ range_with_len (i + 1) (n - (i + 1))
range-next i n below =
    let steps : n - i ≡ suc (n - (i + 1)) = omega (arith, below) in
    ap (range_with_len i) steps

module _ {X : Type 0} (f : ℕ → X) where
  -- the number of this place is there now
  pub number-more : (all now new : List X) (i n : ℕ) → i < n → all ≡ now ++ map f (range_with_len i (n - i))
      → new ≡ now ++ f i ∷ [] → all ≡ new ++ map f (range_with_len (i + 1) (n - (i + 1)))
  number-more all now new i n below whole pushed =
      let rest = range_with_len (i + 1) (n - (i + 1)) in
      one-more all now new (map f rest) (f i)
      (whole ∙ ap (λ numbers. now ++ map f numbers) (range-next i n below)) pushed

  -- .. if it passes the test, and else the list is unchanged
  pub passing-more : (test : ℕ → Bool) (all now new : List X) (i n : ℕ) → i < n
      → all ≡ now ++ map f (filter test (range_with_len i (n - i))) → test i ≡ true → new ≡ now ++ f i ∷ []
      → all ≡ new ++ map f (filter test (range_with_len (i + 1) (n - (i + 1))))
  passing-more test all now new i n below whole passes pushed =
      let rest = range_with_len (i + 1) (n - (i + 1)) in
      let own : filter test (i ∷ rest) ≡ i ∷ filter test rest = rw passes refl in
      one-more all now new (map f (filter test rest)) (f i)
      (whole ∙ ap (λ numbers. now ++ map f (filter test numbers)) (range-next i n below)
      ∙ ap (λ numbers. now ++ map f numbers) own) pushed

  pub failing-more : (test : ℕ → Bool) (all now : List X) (i n : ℕ) → i < n
      → all ≡ now ++ map f (filter test (range_with_len i (n - i))) → test i ≡ false
      → all ≡ now ++ map f (filter test (range_with_len (i + 1) (n - (i + 1))))
  failing-more test all now i n below whole fails =
      let rest = range_with_len (i + 1) (n - (i + 1)) in
      let own : filter test (i ∷ rest) ≡ filter test rest = rw fails refl in
      whole ∙ ap (λ numbers. now ++ map f (filter test numbers)) (range-next i n below)
      ∙ ap (λ numbers. now ++ map f numbers) own

module _ {X Y : Type 0} where
  -- what comes of the item of this place is there now
  pub each-more : (f : X → List Y) (all now new : List Y) (xs : List X) (i : ℕ) (d : X) → i < length xs
      → all ≡ now ++ flat_map f (drop i xs) → new ≡ now ++ f (get_or xs i d)
      → all ≡ new ++ flat_map f (drop (i + 1) xs)
  each-more f all now new xs i d below whole pushed =
      some-more all now new (f (get_or xs i d)) (flat_map f (drop (i + 1) xs))
      (whole ∙ ap (λ rest. now ++ flat_map f rest) (drop_more xs i d below)) pushed

  -- .. if something comes of it, and else the list is unchanged
  pub found-more : (f : X → Option Y) (all now new : List Y) (xs : List X) (i : ℕ) (d : X) (y : Y) → i < length xs
      → all ≡ now ++ filter_map f (drop i xs) → Some y ≡ f (get_or xs i d) → new ≡ now ++ y ∷ []
      → all ≡ new ++ filter_map f (drop (i + 1) xs)
  found-more f all now new xs i d y below whole is pushed =
      let rest = drop (i + 1) xs in
      let own : filter_map f (get_or xs i d ∷ rest) ≡ y ∷ filter_map f rest = rw (sym is) refl in
      one-more all now new (filter_map f rest) y
      (whole ∙ ap (λ these. now ++ filter_map f these) (drop_more xs i d below) ∙ ap (λ these. now ++ these) own) pushed

  pub lacking-more : (f : X → Option Y) (all now : List Y) (xs : List X) (i : ℕ) (d : X) → i < length xs
      → all ≡ now ++ filter_map f (drop i xs) → None ≡ f (get_or xs i d)
      → all ≡ now ++ filter_map f (drop (i + 1) xs)
  lacking-more f all now xs i d below whole is =
      let rest = drop (i + 1) xs in
      let own : filter_map f (get_or xs i d ∷ rest) ≡ filter_map f rest = rw (sym is) refl in
      whole ∙ ap (λ these. now ++ filter_map f these) (drop_more xs i d below) ∙ ap (λ these. now ++ these) own
