-- A line's blanks as bits, and the parts of the line between them.
use Rattle.std.proofs.Common.{inl, inr, ◌≡◌, ℕ, ◌+◌, ◌-◌, ◌<◌, ◌≤◌, ◌/◌, ◌^◌, ◌%◌, max, Bool, true, false, ◌||◌, cond}
use Rattle.std.proofs.Common.{eqb, bit_or, ltb, List, [], ◌∷◌, ◌++◌, length, get_or, take, drop, refl, sym, ap, ◌∙◌}
use Rattle.std.proofs.Common.{arith, append-nil, append_assoc, length-drop, get_or-drop, shr-shr, w64, suc, zero}
use Rattle.std.specs.Int.{bit_at, trailing_zeros}
use Rattle.std.specs.Int.Count.{trailing_of_zero}
use Rattle.std.specs.List.{position_or_len, slice_split, All}
use Rattle.std.proofs.lemmas.Bool.{cases_Bool, ltb-true, ltb-false}
use Rattle.std.proofs.lemmas.Bool.Decides.{nat_tests}
use Rattle.std.proofs.lemmas.Nat.Bits.{bit_at_or, bit_at-trailing_zeros, bit_at-zero}
use Rattle.std.proofs.lemmas.List.{drop_all, take_all, drop-drop, get_or-take}
use Rattle.std.proofs.lemmas.List.Elements.{filter-append}
use Rattle.std.proofs.lemmas.List.Splits.{slice_split_first, slice_split_none}
use Rattle.std.proofs.lemmas.List.Sums.{position_or_len_is, fails_before_first}
use Rattle.litmus_text.specs.Blanks.{AreBlanks}
use Rattle.litmus_text.specs.Text.{is_blank, parts_with_bytes, words}

-- the bits of two tests, together
either_test : (a b : Bool) → max (cond a 1 0) (cond b 1 0) ≡ cond {A = ℕ} (a || b) 1 0
either_test true true = refl
either_test true false = refl
either_test false true = refl
either_test false false = refl

-- a bit of one mask or the other
pub either_blank : (spaces tabs k b : ℕ) → bit_at spaces k ≡ cond (eqb b 32) 1 0 → bit_at tabs k ≡ cond (eqb b 9) 1 0
    → bit_at (bit_or spaces tabs) k ≡ cond (is_blank b) 1 0
either_blank spaces tabs k b space tab =
    bit_at_or spaces tabs k
    ∙ ap (λ n. max n (bit_at tabs k)) space
    ∙ ap (λ n. max (cond (eqb b 32) 1 0) n) tab
    ∙ either_test (eqb b 32) (eqb b 9)

set_tells : (b : Bool) → cond {A = ℕ} b 1 0 ≡ 1 → b ≡ true
set_tells true e = refl
set_tells false e = absurd (omega arith)

clear_tells : (b : Bool) → cond {A = ℕ} b 1 0 ≡ 0 → b ≡ false
clear_tells true e = absurd (omega arith)
clear_tells false e = refl

shifted : (bits at k : ℕ) → bit_at (bits / 2 ^ at) k ≡ bit_at bits (at + k)
shifted bits at k = ap (λ x. x % 2) (shr-shr bits at k)

-- what the bits of a text say of a line that it begins with
pub blanks_of_front : (text line : List ℕ) (bits : ℕ) → take (length line) text ≡ line → length line < 64
    → ((k : ℕ) → k < 64 → bit_at bits k ≡ cond (is_blank (get_or text k 0)) 1 0) → AreBlanks bits line
blanks_of_front text line bits front short blanks = λ k below.
    blanks k (omega arith)
    ∙ ap (λ b. cond (is_blank b) 1 0)
    (sym (get_or-take (length line) text k 0 below) ∙ ap (λ bs. get_or bs k 0) front)

-- the bits below the lowest set bit are clear, and if none is set all 64 are
pub zeros_below : (bits k : ℕ) → bits < 2 ^ 64 → k < trailing_zeros w64 bits → bit_at bits k ≡ 0
zeros_below zero k fits below = bit_at-zero k
zeros_below (suc n) k fits below = (bit_at-trailing_zeros w64 (suc n) (omega arith) fits).2 k below

pub lowest_set : (bits : ℕ) → bits < 2 ^ 64 → trailing_zeros w64 bits < 64 → bit_at bits (trailing_zeros w64 bits) ≡ 1
lowest_set zero fits few = absurd (omega (arith, trailing_of_zero 64))
lowest_set (suc n) fits few = (bit_at-trailing_zeros w64 (suc n) (omega arith) fits).1

module _ (line : List ℕ) (bits at zeros : ℕ) (blanks : AreBlanks bits line) (within : at < length line)
    (clear : (k : ℕ) → k < zeros → bit_at (bits / 2 ^ at) k ≡ 0) where
  no_blank : (k : ℕ) → k < zeros → at + k < length line → is_blank (get_or (drop at line) k 0) ≡ false
  no_blank k below inside =
      ap is_blank (get_or-drop at line k 0)
      ∙ clear_tells (is_blank (get_or line (at + k) 0))
      (sym (blanks (at + k) inside) ∙ sym (shifted bits at k) ∙ clear k below)

  -- the part ends at the next blank
  pub ends_at_blank : at + zeros < length line → bit_at (bits / 2 ^ at) zeros ≡ 1
      → at + zeros ≡ at + position_or_len is_blank (drop at line)
  ends_at_blank inside set =
      let here : is_blank (get_or (drop at line) zeros 0) ≡ true =
      ap is_blank (get_or-drop at line zeros 0)
      ∙ set_tells (is_blank (get_or line (at + zeros) 0))
      (sym (blanks (at + zeros) inside) ∙ sym (shifted bits at zeros) ∙ set) in
      let few : zeros ≤ length (drop at line) = simp length-drop (omega arith) in
      ap (λ p. at + p)
      (sym (position_or_len_is is_blank (drop at line) zeros 0 few
      (λ k below. no_blank k below (omega arith)) (λ inside. here)))

  -- or with the line
  pub ends_with_line : length line ≤ at + zeros → length line ≡ at + position_or_len is_blank (drop at line)
  ends_with_line outside =
      let left = length line - at in
      let all : length (drop at line) ≡ left = length-drop at line in
      let place = position_or_len_is is_blank (drop at line) left 0 (omega arith)
      (λ k below. no_blank k (omega arith) (omega arith)) (λ inside. absurd (omega arith)) in
      omega (arith, place)

-- an empty part is no word
pub no_part : (part : List ℕ) → length part ≡ 0 → parts_with_bytes (part ∷ []) ≡ []
no_part part none = grind (arith, nat_tests)

pub one_part : (part : List ℕ) → 0 < length part → parts_with_bytes (part ∷ []) ≡ part ∷ []
one_part part some = grind (arith, nat_tests)

no_blanks : (bs : List ℕ) → length bs ≤ position_or_len is_blank bs → All (λ b. is_blank b ≡ false) bs
no_blanks bs h = λ k d below. fails_before_first is_blank bs k d (omega arith)

-- the words of a text are its first part, where that has bytes, and those after the blank
words_of_part : (bs : List ℕ) → words bs ≡ parts_with_bytes (take (position_or_len is_blank bs) bs ∷ [])
    ++ words (drop (position_or_len is_blank bs + 1) bs)
words_of_part bs =
    let p = position_or_len is_blank bs in
    elim (cases_Bool (ltb p (length bs))) [
      | inl inside ↦
          let split : words bs ≡ parts_with_bytes (take p bs ∷ slice_split is_blank (drop (p + 1) bs)) =
          ap parts_with_bytes (slice_split_first is_blank bs 0 (ltb-true p (length bs) inside)) in
          split ∙ filter-append (λ w. ltb 0 (length w)) (take p bs ∷ []) (slice_split is_blank (drop (p + 1) bs))
      | inr outside ↦
          let end : length bs ≤ p = ltb-false p (length bs) outside in
          let whole : words bs ≡ parts_with_bytes (bs ∷ []) =
          ap parts_with_bytes (slice_split_none is_blank bs (no_blanks bs end)) in
          rw (take_all p bs end, drop_all (p + 1) bs (omega arith), append-nil) whole
    ]

-- a row with the words before a place continues with the part that begins there
pub row_goes_on : (row : List (List ℕ)) (line : List ℕ) (at end : ℕ)
    → end ≡ at + position_or_len is_blank (drop at line)
    → row ++ words (drop at line) ≡ words line
    → (row ++ parts_with_bytes (take (end - at) (drop at line) ∷ [])) ++ words (drop (end + 1) line) ≡ words line
row_goes_on row line at end e so_far =
    let p = position_or_len is_blank (drop at line) in
    let long : end - at ≡ p = omega arith in
    let next : drop (end + 1) line ≡ drop (p + 1) (drop at line) =
    ap (λ k. drop k line) (omega arith) ∙ sym (drop-drop (p + 1) at line) in
    rw (append_assoc, long, next) (ap (λ ws. row ++ ws) (sym (words_of_part (drop at line))) ∙ so_far)

-- after the line there are none
pub words_behind : (line : List ℕ) (at : ℕ) → length line ≤ at → words (drop at line) ≡ []
words_behind line at end = ap words (drop_all at line end)
