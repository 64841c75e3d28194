-- The items of a list that some of the first numbers have.
use Rattle.std.proofs.Common.{◌≡◌, ℕ, ◌+◌, ◌<◌, ◌≤◌, ◌∙◌, ap, arith, Bool, false, List, [], ◌∷◌, ◌++◌, drop, refl}
use Rattle.std.specs.Fmt.{WritesInCalls}
use Rattle.std.specs.List.{flat_map, range_with_len}
use Rattle.std.proofs.lemmas.List.FromFn.{length-range_with_len}
use Rattle.litmus_text.specs.JsonList.{before_text, with_commas_from}
use Rattle.litmus_text.proofs.Commas.{at_range, last_text, next_text, skip_text}

module _ {W : Type 0} (took : W → List ℕ → W → Type 0) (texts : ℕ → List (List ℕ)) (first : Bool) (n i : ℕ) where
  abbrev pub items : Bool → List ℕ → List ℕ
  items first numbers = with_commas_from first (flat_map texts numbers)

  -- a number that has none
  pub none_at : i < n → texts i ≡ [] → (old last : W)
      → WritesInCalls took old (items first (drop (i + 1) (range_with_len 0 n))) last
      → WritesInCalls took old (items first (drop i (range_with_len 0 n))) last
  none_at below none old last rest =
      let behind = drop (i + 1) (range_with_len 0 n) in
      skip_text took items first (range_with_len 0 n) i 0 (omega (arith, length-range_with_len 0 n, below))
      (ap (λ (k : ℕ). items first (k ∷ behind)) (at_range n i below)
      ∙ ap (λ (these : List (List ℕ)). with_commas_from first (these ++ flat_map texts behind)) none)
      old last rest

  -- one that has an item, and then those after it
  pub one_at : (text : List ℕ) → i < n → texts i ≡ text ∷ [] → (old mid new last : W)
      → WritesInCalls took old (before_text first) mid → WritesInCalls took mid text new
      → WritesInCalls took new (items false (drop (i + 1) (range_with_len 0 n))) last
      → WritesInCalls took old (items first (drop i (range_with_len 0 n))) last
  one_at text below one old mid new last comma written rest =
      let behind = drop (i + 1) (range_with_len 0 n) in
      next_text took items first (range_with_len 0 n) i 0 text (omega (arith, length-range_with_len 0 n, below))
      (ap (λ (k : ℕ). items first (k ∷ behind)) (at_range n i below)
      ∙ ap (λ (these : List (List ℕ)). with_commas_from first (these ++ flat_map texts behind)) one)
      old mid new last comma written rest

  -- after the last number there is none
  pub none_behind : n ≤ i → (now : W) → WritesInCalls took now (items first (drop i (range_with_len 0 n))) now
  none_behind end now =
      last_text took items first (range_with_len 0 n) i (omega (arith, length-range_with_len 0 n, end)) refl now
