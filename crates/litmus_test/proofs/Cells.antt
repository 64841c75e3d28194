-- Cells that are written one by one.
use Rattle.std.proofs.Common.{arith, ◌≡◌, ◌⊎◌, ℕ, ◌+◌, List, [], ◌∷◌, ◌++◌, length, get_or, map, ◌<◌, codes, decimal}
use Rattle.std.proofs.Common.{drop, ap, sym, refl, subst, ◌∙◌, append_assoc, inl, inr}
use Rattle.std.specs.Fmt.{WritesInCalls}
use Rattle.std.specs.List.{flat_map, zip}
use Rattle.std.proofs.lemmas.List.{at_drop_more, length-map}
use Rattle.std.proofs.Output.{writes_in_calls_append, writes_in_calls_nil}
use Rattle.address_map.specs.declared.address.WordAddr.{WordAddr}
use Rattle.litmus_test.specs.declared.test.LitmusTest.{LitmusTest}
use Rattle.litmus_test.specs.declared.test.NamedReply.{NamedReply}
use Rattle.litmus_test.specs.OutcomesText.{cells_of, counter_label, labels_of}

module _ {W X : Type 0} (took : W → List ℕ → W → Type 0) (label : X → List ℕ) where
  -- the cells of these, as far as there are values
  abbrev pub labelled : List X → List ℕ → List ℕ
  labelled xs values = cells_of (zip (map label xs) values)

  -- a cell is written, and then those after it
  pub next_cell : (xs rest : List X) (values later : List ℕ) (x : X) (value : ℕ)
      → xs ≡ x ∷ rest → values ≡ value ∷ later
      → (old mid new : W) → WritesInCalls took old (codes " " ++ label x ++ codes "=" ++ decimal value) mid
      → WritesInCalls took mid (labelled rest later) new → WritesInCalls took old (labelled xs values) new
  next_cell xs rest values later x value is has old mid new one more =
      rw (is, has) (writes_in_calls_append took old _ mid _ new one more)

  -- if nothing is left, nothing more is written
  pub last_cell : (xs : List X) (values : List ℕ) → (length xs ≡ 0) ⊎ (length values ≡ 0) → (now : W)
      → WritesInCalls took now (labelled xs values) now
  last_cell [] values end now = writes_in_calls_nil took now
  last_cell (x ∷ xs) [] end now = writes_in_calls_nil took now
  last_cell (x ∷ xs) (value ∷ values) (inl none) now = absurd (omega (arith, none))
  last_cell (x ∷ xs) (value ∷ values) (inr none) now = absurd (omega (arith, none))

-- the cells of two kinds of labels: the second have the values after those of the first
pub two_kinds : (first second : List (List ℕ)) (values : List ℕ)
    → cells_of (zip (first ++ second) values)
    ≡ cells_of (zip first values) ++ cells_of (zip second (drop (length first) values))
two_kinds [] second values = refl
two_kinds (label ∷ first) [] [] = refl
two_kinds (label ∷ first) (other ∷ second) [] = refl
two_kinds (label ∷ first) second (value ∷ values) =
    rw (two_kinds first second values)
    (sym (append_assoc (codes " " ++ label ++ codes "=" ++ decimal value) _ _))

-- the cells of the names and those of the counters are those of all labels
pub names_and_counters : (test : LitmusTest) (names : List NamedReply) (counters : List WordAddr)
    (values whole behind : List ℕ)
    → names ≡ test.names.items → counters ≡ test.config.counters → values ≡ whole
    → behind ≡ drop (length test.names.items) whole
    → cells_of (zip (map (λ (named : NamedReply). named.name.now) names) values)
    ++ cells_of (zip (map counter_label counters) behind)
    ≡ cells_of (zip (labels_of test) whole)
names_and_counters test names counters values whole behind same_names same_counters same_values rest =
    let label : NamedReply → List ℕ = λ named. named.name.now in
    let long : length (map label test.names.items) ≡ length test.names.items = length-map test.names.items label in
    rw (same_names, same_counters, same_values, rest, ← long)
    (sym (two_kinds (map label test.names.items) (map counter_label test.config.counters) whole))

-- a line is written, and then those after it
pub next_line : {W X : Type 0} (took : W → List ℕ → W → Type 0) (line : X → List ℕ) (xs : List X) (i : ℕ) (x : X)
    → i < length xs → x ≡ get_or xs i x → (old mid new : W) → WritesInCalls took old (line x) mid
    → WritesInCalls took mid (flat_map line (drop (i + 1) xs)) new
    → WritesInCalls took old (flat_map line (drop i xs)) new
next_line took line xs i x below is old mid new one rest =
    let split = at_drop_more (flat_map line) xs i x below
    ∙ ap (λ here. line here ++ flat_map line (drop (i + 1) xs)) (sym is) in
    subst (λ text. WritesInCalls took old text new) (sym split) (writes_in_calls_append took old _ mid _ new one rest)
