-- A text is its first line and the lines of what follows it.
use Rattle.std.proofs.Common.{inl, inr, ◌≡◌, ℕ, ◌+◌, ◌<◌, ◌≤◌, ◌==◌, Bool, false, List, [], ◌∷◌, length}
use Rattle.std.proofs.Common.{take, drop, Some, None, refl, arith, ◌∙◌, ap}
use Rattle.std.specs.List.{position, position_or_len, slice_split, before_first, after_first, onto_first, All}
use Rattle.std.specs.Str.Lines.{lines, lines_of_parts, strip_carriage_return}
use Rattle.std.proofs.lemmas.List.Splits.{slice_split_first, slice_split_none, slice_split-cons_yes}
use Rattle.std.proofs.lemmas.List.Splits.{slice_split-cons_no, length-slice_split}
use Rattle.std.proofs.lemmas.List.Sums.{fails_before_first}
use Rattle.std.proofs.lemmas.Bool.{cases_Bool}
use Rattle.std.proofs.lemmas.Bool.Decides.{nat_tests}
use Rattle.litmus_text.proofs.PlaceLemmas.{found_at, found_nowhere}

lines_of_parts-cons : (part : List ℕ) (parts : List (List ℕ)) → 0 < length parts →
    lines_of_parts (part ∷ parts) ≡ strip_carriage_return part ∷ lines_of_parts parts
lines_of_parts-cons part [] h = absurd (omega arith)
lines_of_parts-cons part (x ∷ xs) h = refl

one_part : (text : List ℕ) → 0 < length text → lines_of_parts (text ∷ []) ≡ text ∷ []
one_part text h = grind (arith, nat_tests)

no_feed : (text : List ℕ) → length text ≤ position_or_len (λ b. b == 10) text → All (λ b. (b == 10) ≡ false) text
no_feed text h = λ k d below. fails_before_first (λ b. b == 10) text k d (omega arith)

-- a text without a line feed is one line
pub lines_without_feed : (text : List ℕ) → 0 < length text → position (λ b. b == 10) text ≡ None →
    lines text ≡ text ∷ []
lines_without_feed text some e =
    let f : ℕ → Bool = λ b. b == 10 in
    let nowhere = found_nowhere (position_or_len f text) (length text) e in
    let part = slice_split_none f text (no_feed text nowhere) in
    ap lines_of_parts part ∙ one_part text some

-- what is before the first line feed is the first line
pub lines_at_feed : (text : List ℕ) (end : ℕ) → position (λ b. b == 10) text ≡ Some end →
    lines text ≡ strip_carriage_return (take end text) ∷ lines (drop (end + 1) text)
lines_at_feed text end e =
    let f : ℕ → Bool = λ b. b == 10 in
    let at = found_at (position_or_len f text) (length text) end e in
    let some : 0 < length (slice_split f (after_first f text)) =
    omega (arith, length-slice_split f (after_first f text)) in
    ap lines_of_parts (slice_split_first f text 0 at.0)
    ∙ lines_of_parts-cons (before_first f text) (slice_split f (after_first f text)) some
    ∙ ap (λ k. strip_carriage_return (take k text) ∷ lines (drop (k + 1) text)) at.1

length-onto_first : (b : ℕ) (parts : List (List ℕ)) → length (lines_of_parts (onto_first b parts))
    ≤ length (lines_of_parts parts) + 1
length-onto_first b [] = omega arith
length-onto_first b (part ∷ []) = let one : length (lines_of_parts ((b ∷ part) ∷ [])) ≡ 1 =
    ap length (one_part (b ∷ part) (omega arith)) in omega arith
length-onto_first b (part ∷ next ∷ more) = omega arith

-- a text has no more lines than bytes
pub length-lines : (text : List ℕ) → length (lines text) ≤ length text
length-lines [] = omega arith
length-lines (b ∷ bs) =
    let f : ℕ → Bool = λ b. b == 10 in
    let shorter = length-lines bs in
    elim (cases_Bool (f b)) [
      | inl feed ↦
          let some : 0 < length (slice_split f bs) = omega (arith, length-slice_split f bs) in
          let next : lines (b ∷ bs) ≡ strip_carriage_return [] ∷ lines bs =
          ap lines_of_parts (slice_split-cons_yes f b bs feed) ∙ lines_of_parts-cons [] (slice_split f bs) some in
          rw next (omega arith)
      | inr other ↦
          let joined : lines (b ∷ bs) ≡ lines_of_parts (onto_first b (slice_split f bs)) =
          ap lines_of_parts (slice_split-cons_no f b bs other) in
          rw joined (omega (arith, length-onto_first b (slice_split f bs)))
    ]
