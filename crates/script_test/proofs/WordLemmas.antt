-- The first word that isn't the same in two lines, from the words in front of it.
use Rattle.std.proofs.Common.{◌≡◌, ◌≢◌, ℕ, ◌+◌, ◌≤◌, Bool, true, false, cond, List, [], ◌∷◌, ◌++◌, length, take}
use Rattle.std.proofs.Common.{ap, refl, sym, arith, ◌∙◌, nat_eq, nat_lt, append_assoc}
use Rattle.std.proofs.Math.Seq.{take-append_seam}
use Rattle.std.proofs.lemmas.List.Splits.{length-slice_split}
use Rattle.std.proofs.lemmas.List.Sums.{count_by-le-length, length-filter}
use Rattle.std.specs.Cmp.Lexicographic.{pointwise, bytes_decides}
use Rattle.std.specs.List.{slice_get, slice_split}
use Rattle.std.specs.Prelude.{◌==◌, slice_index}
use Rattle.litmus_text.specs.Text.{is_blank, words, words_of_line}
use Rattle.script_test.specs.Judged.{IsUnlikeFrom}

slice_get_behind : {X : Type 0} (front rest : List X) → slice_get (front ++ rest) (length front) ≡ slice_get rest 0
slice_get_behind [] rest = refl
slice_get_behind (x ∷ front) rest = slice_get_behind front rest

-- two lines have the same words in front, and after these not the same
unlike_behind : (a b : List ℕ) (front x y : List (List ℕ)) (word : ℕ)
    → words_of_line a ≡ front ++ x → words_of_line b ≡ front ++ y → word ≡ length front + 1
    → slice_get x 0 ≢ slice_get y 0 → IsUnlikeFrom a b word
unlike_behind a b front x y word left right number other =
    let same : take (length front) (words_of_line a) ≡ take (length front) (words_of_line b) =
    ap (take (length front)) left ∙ take-append_seam front x
    ∙ sym (ap (take (length front)) right ∙ take-append_seam front y) in (
      length front,
      number,
      same,
      λ alike. other
          (sym (slice_get_behind front x) ∙ sym (ap (λ ws. slice_get ws (length front)) left) ∙ alike
          ∙ ap (λ ws. slice_get ws (length front)) right ∙ slice_get_behind front y),
    )

module _ (a b : List ℕ) (front x y : List (List ℕ)) (word : ℕ)
    (left : words_of_line a ≡ front ++ x) (right : words_of_line b ≡ front ++ y) (number : word ≡ length front + 1) where
  -- both have another word there
  pub other_word : (u v : List ℕ) (us vs : List (List ℕ)) → x ≡ u ∷ us → y ≡ v ∷ vs → pointwise nat_eq v u ≡ false
      → IsUnlikeFrom a b word
  other_word u v us vs first second differ =
      unlike_behind a b front (u ∷ us) (v ∷ vs) word (left ∙ ap (λ rest. front ++ rest) first)
      (right ∙ ap (λ rest. front ++ rest) second) number
      (λ alike. let same : v ≡ u = cc in let yes = (bytes_decides v u).1 same in cc)

  -- the second has no word there
  pub word_more : (u : List ℕ) (us : List (List ℕ)) → x ≡ u ∷ us → y ≡ [] → IsUnlikeFrom a b word
  word_more u us first second =
      unlike_behind a b front (u ∷ us) [] word (left ∙ ap (λ rest. front ++ rest) first)
      (right ∙ ap (λ rest. front ++ rest) second) number (λ alike. (cc))

  -- the first has none
  pub word_less : (v : List ℕ) (vs : List (List ℕ)) → x ≡ [] → y ≡ v ∷ vs → IsUnlikeFrom a b word
  word_less v vs first second =
      unlike_behind a b front [] (v ∷ vs) word (left ∙ ap (λ rest. front ++ rest) first)
      (right ∙ ap (λ rest. front ++ rest) second) number (λ alike. (cc))

-- one word more was read
pub one_more : (all front x xs : List (List ℕ)) (w : List ℕ) → all ≡ front ++ x → x ≡ w ∷ xs
    → all ≡ (front ++ w ∷ []) ++ xs
one_more all front x xs w parts first =
    parts ∙ ap (λ rest. front ++ rest) first ∙ sym (append_assoc front (w ∷ []) xs)

few_if : (b : Bool) (ws : List (List ℕ)) (n : ℕ) → length ws ≤ n → length (cond b [] ws) ≤ n
few_if true ws n few = omega arith
few_if false ws n few = few

-- a line has at most one word more than bytes
pub few_words : (line : List ℕ) → length (words_of_line line) ≤ length line + 1
few_words line =
    let parts = slice_split is_blank line in
    let split = length-slice_split is_blank line in
    let kept = length-filter (λ w. nat_lt 0 (length w)) parts in
    let few = count_by-le-length (λ w. nat_lt 0 (length w)) parts in
    let blanks = count_by-le-length is_blank line in
    few_if (slice_index line 0 == 35) (words line) (length line + 1) (omega (arith, split, kept, few, blanks))
