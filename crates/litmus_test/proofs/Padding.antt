-- Numbers right-aligned in 8 columns: the layout `{:>8}`.
use Rattle.std.proofs.Common.{◌≡◌, ℕ, zero, suc, ◌-◌, ◌^◌, List, [], ◌∷◌, ◌++◌, length, replicate, refl, ap, ◌∙◌, arith}
use Rattle.std.proofs.Common.{append-nil}
use lib.Utf8.{encode}
use Rattle.std.specs.List.{repeat}
use Rattle.std.specs.Fmt.{decimal, format_spec, styled_decimal, padded_integral, char_count}
use Rattle.litmus_test.specs.OutcomesText.{right_in_8}

repeat-space : (n : ℕ) → repeat {A = ℕ} n (32 ∷ []) ≡ replicate n 32
repeat-space zero = refl
repeat-space (suc n) = ap (λ rest. 32 ∷ rest) (repeat-space n)

-- a number's padding comes before it, and none after it
padded_front : (pad : ℕ) (text : List ℕ) → let space : List ℕ = 32 ∷ [] in
    (repeat pad space ++ [] ++ [] ++ []) ++ (text ++ repeat (pad - pad) space) ≡ replicate pad 32 ++ text
padded_front pad text =
    let none : ◌≡◌ {A = ℕ} (pad - pad) 0 = omega arith in
    simp (none, repeat-space pad, append-nil) refl

pub number_right : (n : ℕ) → styled_decimal (format_spec 32 3 0 8 (2 ^ 64 - 1)) n ≡ right_in_8 (decimal n)
unfolding padded_integral char_count encode
number_right n =
    let pad : ℕ = 8 - length (decimal n) - 0 - 0 in
    let same : pad ≡ 8 - length (decimal n) = omega arith in
    padded_front pad (decimal n) ∙ ap (λ k. replicate k 32 ++ decimal n) same
