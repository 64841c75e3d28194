-- Texts with commas between them that are written one by one.
use Rattle.std.proofs.Common.{◌≡◌, ℕ, ◌+◌, ◌<◌, ◌≤◌, Bool, false, List, [], ◌∷◌, ◌++◌, length, get_or, drop, sym, subst, ◌∙◌}
use Rattle.std.proofs.Common.{arith}
use Rattle.std.specs.Fmt.{WritesInCalls}
use Rattle.std.specs.List.{range_with_len}
use Rattle.std.proofs.lemmas.List.{at_drop_all, at_drop_more}
use Rattle.std.proofs.lemmas.List.FromFn.{get_or-range_with_len}
use Rattle.std.proofs.Output.{writes_in_calls_append, writes_in_calls_nil}
use Rattle.litmus_text.specs.JsonList.{before_text}

module _ {W X : Type 0} (took : W → List ℕ → W → Type 0) (all : Bool → List X → List ℕ) (first : Bool) (xs : List X)
    (i : ℕ) (d : X) where
  -- the text of the next item, and then those of the items after it
  pub next_text : (text : List ℕ) → i < length xs
      → all first (get_or xs i d ∷ drop (i + 1) xs) ≡ (before_text first ++ text) ++ all false (drop (i + 1) xs)
      → (old mid new last : W) → WritesInCalls took old (before_text first) mid → WritesInCalls took mid text new
      → WritesInCalls took new (all false (drop (i + 1) xs)) last → WritesInCalls took old (all first (drop i xs)) last
  next_text text below step old mid new last comma one rest =
      subst (λ these. WritesInCalls took old these last) (sym (at_drop_more (all first) xs i d below ∙ step))
      (writes_in_calls_append took old _ new _ last (writes_in_calls_append took old _ mid _ new comma one) rest)

  -- an item that has no text
  pub skip_text : i < length xs → all first (get_or xs i d ∷ drop (i + 1) xs) ≡ all first (drop (i + 1) xs)
      → (old last : W) → WritesInCalls took old (all first (drop (i + 1) xs)) last
      → WritesInCalls took old (all first (drop i xs)) last
  skip_text below step old last rest =
      subst (λ these. WritesInCalls took old these last) (sym (at_drop_more (all first) xs i d below ∙ step)) rest

-- after the last item there is none
pub last_text : {W X : Type 0} (took : W → List ℕ → W → Type 0) (all : Bool → List X → List ℕ) (first : Bool)
    (xs : List X) (i : ℕ)
    → length xs ≤ i → all first [] ≡ [] → (now : W) → WritesInCalls took now (all first (drop i xs)) now
last_text took all first xs i end none now =
    subst (λ text. WritesInCalls took now text now) (sym (at_drop_all (all first) xs i end ∙ none))
    (writes_in_calls_nil took now)

-- the number at a place of those from 0 on
pub at_range : (n i : ℕ) → i < n → get_or (range_with_len 0 n) i 0 ≡ i
at_range n i below = let at = get_or-range_with_len 0 n i 0 below in omega (arith, at)
