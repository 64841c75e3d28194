-- A line's words, one after the other.
use Rattle.std.proofs.Common.{◌≡◌, ℕ, zero, suc, ◌+◌, ◌<◌, ◌≤◌, Bool, true, false, not, ltb, List, [], ◌∷◌, length}
use Rattle.std.proofs.Common.{get_or, take, drop, Some, None, refl, arith, inl, inr, ◌∙◌, ap, sym, length-take}
use Rattle.std.proofs.Common.{length-drop, get_or-drop, add-zero}
use Rattle.std.specs.List.{position, position_or_len, slice_split, filter, All}
use Rattle.std.proofs.lemmas.List.{drop_all}
use Rattle.std.proofs.lemmas.List.Splits.{slice_split_first, slice_split_none}
use Rattle.std.proofs.lemmas.List.Sums.{fails_before_first, passes_at_first}
use Rattle.std.proofs.lemmas.Bool.{cases_Bool, not-true, false≢true}
use Rattle.std.proofs.lemmas.Bool.Decides.{nat_tests}
use Rattle.litmus_text.specs.Text.{is_blank, words}
use Rattle.litmus_text.proofs.PlaceLemmas.{found_at, found_nowhere}

drop-first : (b : ℕ) (bs : List ℕ) (n : ℕ) → drop (1 + n) (b ∷ bs) ≡ drop n bs
drop-first b bs n = let next : 1 + n ≡ suc n = omega arith in ap (λ k. drop k (b ∷ bs)) next

-- blanks at the front are no words
words_skip : (bs : List ℕ) → words (drop (position_or_len (λ b. not (is_blank b)) bs) bs) ≡ words bs
words_skip [] = refl
words_skip (b ∷ bs) = elim (cases_Bool (is_blank b)) [
  | inl e ↦ rw e (ap words (drop-first b bs (position_or_len (λ b. not (is_blank b)) bs)) ∙ words_skip bs)
  | inr e ↦ rw e (rw e refl)
]

-- a text of blanks has no words
pub words_of_blanks : (bs : List ℕ) → position (λ b. not (is_blank b)) bs ≡ None → words bs ≡ []
words_of_blanks bs e =
    let q : ℕ → Bool = λ b. not (is_blank b) in
    sym (words_skip bs)
    ∙ ap words (drop_all (position_or_len q bs) bs (found_nowhere (position_or_len q bs) (length bs) e))

-- the first byte that is no blank is one of the text's
pub first_letter : (bs : List ℕ) (start : ℕ) → position (λ b. not (is_blank b)) bs ≡ Some start → start < length bs
first_letter bs start e =
    let at = found_at (position_or_len (λ b. not (is_blank b)) bs) (length bs) start e in
    omega arith

-- a text begins with a word, and has the words of the one that it is the end of
pub record BeginsWith (bs text : List ℕ) : Type 0 where
  pub some : 0 < length text
  pub no_blank : is_blank (get_or text 0 0) ≡ false
  pub same_words : words bs ≡ words text

-- the words begin at the first byte that is no blank
pub words_begin : (bs text : List ℕ) (start : ℕ) → position (λ b. not (is_blank b)) bs ≡ Some start
    → text ≡ drop start bs → BeginsWith bs text
words_begin bs text start e is =
    let q : ℕ → Bool = λ b. not (is_blank b) in
    let at = found_at (position_or_len q bs) (length bs) start e in
    let passes : not (is_blank (get_or bs start 0)) ≡ true = rw at.1 at (passes_at_first q bs 0 at.0) in
    rw is (record {
      some = simp length-drop (omega arith);
      no_blank = rw (get_or-drop, add-zero) (not-true (is_blank (get_or bs start 0)) passes);
      same_words = sym (words_skip bs) ∙ ap (λ k. words (drop k bs)) at.1;
    })

no_blanks : (bs : List ℕ) → length bs ≤ position_or_len is_blank bs → All (λ b. is_blank b ≡ false) bs
no_blanks bs h = λ k d below. fails_before_first is_blank bs k d (omega arith)

filter_some : (w : List ℕ) (ws : List (List ℕ)) → 0 < length w →
    filter (λ w. ltb 0 (length w)) (w ∷ ws) ≡ w ∷ filter (λ w. ltb 0 (length w)) ws
filter_some w ws h = grind (arith, nat_tests)

-- a text without blanks is one word
pub words_without_blank : (bs : List ℕ) → 0 < length bs → position is_blank bs ≡ None → words bs ≡ bs ∷ []
words_without_blank bs some e =
    let nowhere = found_nowhere (position_or_len is_blank bs) (length bs) e in
    ap (filter (λ w. ltb 0 (length w))) (slice_split_none is_blank bs (no_blanks bs nowhere)) ∙ filter_some bs [] some

after_begin : (bs : List ℕ) (end : ℕ) → is_blank (get_or bs 0 0) ≡ false → is_blank (get_or bs end 0) ≡ true → 0 < end
after_begin bs zero begins ends = absurd (false≢true (sym begins ∙ ends))
after_begin bs (suc n) begins ends = omega arith

-- what is before the first blank is the first word, where that isn't empty
pub words_to_blank : (bs : List ℕ) (end : ℕ) → is_blank (get_or bs 0 0) ≡ false → position is_blank bs ≡ Some end →
    words bs ≡ take end bs ∷ words (drop (end + 1) bs)
words_to_blank bs end begins e =
    let p = position_or_len is_blank bs in
    let at = found_at p (length bs) end e in
    let ends : is_blank (get_or bs end 0) ≡ true = rw at.1 at (passes_at_first is_blank bs 0 at.0) in
    let begun : 0 < end = after_begin bs end begins ends in
    let some : 0 < length (take end bs) = simp length-take (omega arith) in
    let split : words bs ≡ filter (λ w. ltb 0 (length w)) (take p bs ∷ slice_split is_blank (drop (p + 1) bs)) =
    ap (filter (λ w. ltb 0 (length w))) (slice_split_first is_blank bs 0 at.0) in
    split
    ∙ ap (λ k. filter (λ w. ltb 0 (length w)) (take k bs ∷ slice_split is_blank (drop (k + 1) bs))) at.1
    ∙ filter_some (take end bs) (slice_split is_blank (drop (end + 1) bs)) some
