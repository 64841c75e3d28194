-- Texts that grow.
use Rattle.std.proofs.Common.{◌≡◌, ℕ, zero, suc, ◌+◌, List, [], ◌∷◌, ◌++◌, Result, Ok, Err, OnOk, sym, ap, ◌∙◌, arith}
use Rattle.std.proofs.Common.{add-one, ◌<◌, length, take, get_or}
use Rattle.std.specs.List.{flat_map, range_with_len}
use Rattle.std.proofs.lemmas.List.{flat_map_more, take_more}

-- what was appended, in other words
pub appended-same : {X E : Type 0} (result : Result X E) (old new a b : List ℕ) → a ≡ b
    → OnOk result (new ≡ old ++ a) → OnOk result (new ≡ old ++ b)
appended-same (Ok x) old new a b same grown = grown ∙ ap (λ text. old ++ text) same
appended-same (Err e) old new a b same grown = tt

-- one number more at the end of a range
range-more : (a n j : ℕ) → a + n ≡ j → range_with_len a (suc n) ≡ range_with_len a n ++ j ∷ []
range-more a zero j e = ap (λ x. x ∷ []) (omega (arith, e))
range-more a (suc n) j e = ap (λ xs. a ∷ xs) (range-more (a + 1) n j (omega (arith, e)))

-- the lines so far and one more
pub lines_more : (line : ℕ → List ℕ) (before now new : List ℕ) (n : ℕ)
    → now ≡ before ++ flat_map line (range_with_len 0 n) → new ≡ now ++ line n
    → new ≡ before ++ flat_map line (range_with_len 0 (n + 1))
lines_more line before now new n so_far grown =
    let more : range_with_len 0 (n + 1) ≡ range_with_len 0 n ++ n ∷ [] =
    ap (range_with_len 0) (add-one n) ∙ range-more 0 n n (omega arith) in
    grown ∙ ap (λ text. text ++ line n) so_far ∙ flat_map_more line before (range_with_len 0 n) n
    ∙ ap (λ numbers. before ++ flat_map line numbers) (sym more)

-- the cells so far and one more
pub cells_more : {X : Type 0} (cell : X → List ℕ) (before now new : List ℕ) (columns : List X) (i : ℕ) (default : X)
    → i < length columns → now ≡ before ++ flat_map cell (take i columns) → new ≡ now ++ cell (get_or columns i default)
    → new ≡ before ++ flat_map cell (take (i + 1) columns)
cells_more cell before now new columns i default within so_far grown =
    grown ∙ ap (λ text. text ++ cell (get_or columns i default)) so_far
    ∙ flat_map_more cell before (take i columns) (get_or columns i default)
    ∙ ap (λ xs. before ++ flat_map cell xs) (sym (take_more columns i default within))
