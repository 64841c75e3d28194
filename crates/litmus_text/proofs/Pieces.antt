-- A text that is written piece by piece, one for each item of a list.
use Rattle.std.proofs.Common.{◌≡◌, ℕ, ◌+◌, ◌<◌, ◌≤◌, List, [], ◌∷◌, ◌++◌, length, get_or, drop, sym, ap, subst, ◌∙◌}
use Rattle.std.proofs.Common.{append_assoc}
use Rattle.std.proofs.lemmas.List.{append-nil, at_drop_all, at_drop_more}
use Rattle.std.proofs.Output.{writes_in_calls_append, writes_in_calls_nil}
use Rattle.std.specs.Fmt.{WritesInCalls}
use Rattle.std.specs.List.{flat_map}

module _ {W X : Type 0} (took : W → List ℕ → W → Type 0) (all : List X → List ℕ) (xs : List X) (i : ℕ) where
  -- the piece of the next item, and then those of the items after it
  pub next_piece : (piece : List ℕ) (d : X) → i < length xs
      → all (get_or xs i d ∷ drop (i + 1) xs) ≡ piece ++ all (drop (i + 1) xs)
      → (old mid new : W) → WritesInCalls took old piece mid → WritesInCalls took mid (all (drop (i + 1) xs)) new
      → WritesInCalls took old (all (drop i xs)) new
  next_piece piece d below step old mid new one rest =
      subst (λ text. WritesInCalls took old text new) (sym (at_drop_more all xs i d below ∙ step))
      (writes_in_calls_append took old piece mid _ new one rest)

  -- after the last item there is none
  pub last_piece : length xs ≤ i → all [] ≡ [] → (now : W) → WritesInCalls took now (all (drop i xs)) now
  last_piece end none now =
      subst (λ text. WritesInCalls took now text now) (sym (at_drop_all all xs i end ∙ none))
      (writes_in_calls_nil took now)

-- Texts in memory that grow by such pieces.
module _ {X : Type 0} (f : X → List ℕ) (xs : List X) (i : ℕ) where
  -- the piece of the next item, and then those of the items after it
  pub next_pieces : (x : X) (old new piece : List ℕ) → i < length xs → x ≡ get_or xs i x → piece ≡ f x
      → new ≡ old ++ piece → new ++ flat_map f (drop (i + 1) xs) ≡ old ++ flat_map f (drop i xs)
  next_pieces x old new piece below here is grows =
      ap (λ (t : List ℕ). t ++ flat_map f (drop (i + 1) xs))
      (grows ∙ ap (λ (t : List ℕ). old ++ t) (is ∙ ap f here))
      ∙ append_assoc old (f (get_or xs i x)) (flat_map f (drop (i + 1) xs))
      ∙ ap (λ (t : List ℕ). old ++ t) (sym (at_drop_more (flat_map f) xs i x below))

  -- .. if the item is a value
  pub next_values : (d : X) (old new piece : List ℕ) → i < length xs → piece ≡ f (get_or xs i d)
      → new ≡ old ++ piece → new ++ flat_map f (drop (i + 1) xs) ≡ old ++ flat_map f (drop i xs)
  next_values d old new piece below is grows =
      ap (λ (t : List ℕ). t ++ flat_map f (drop (i + 1) xs)) (grows ∙ ap (λ (t : List ℕ). old ++ t) is)
      ∙ append_assoc old (f (get_or xs i d)) (flat_map f (drop (i + 1) xs))
      ∙ ap (λ (t : List ℕ). old ++ t) (sym (at_drop_more (flat_map f) xs i d below))

  -- after the last item there is none
  pub last_pieces : (now : List ℕ) → length xs ≤ i → now ≡ now ++ flat_map f (drop i xs)
  last_pieces now end = sym (ap (λ (t : List ℕ). now ++ t) (at_drop_all (flat_map f) xs i end) ∙ append-nil now)
