-- Numbers and names to the right in 10 places: what the layout `{:>10}` makes of them.
use Rattle.std.proofs.Common.{◌≡◌, ℕ, zero, suc, ◌-◌, ◌^◌, List, [], ◌∷◌, ◌++◌, length, replicate, refl, ap, ◌∙◌, arith}
use Rattle.std.proofs.Common.{append-nil}
use lib.Utf8.{encode}
use Rattle.std.specs.List.{repeat}
use Rattle.std.specs.Fmt.{decimal, format_spec, styled_decimal, styled_text, padded_integral, padded, char_count}
use Rattle.std.specs.Fmt.{take_chars}
use Rattle.stats_report.specs.declared.column.Column.{Column}
use Rattle.stats_report.specs.declared.column.Column.TheVariants.{Hits, Primary, Secondary, Stall, Evictions, Silent}
use Rattle.slice_answer.specs.declared.answer.Stall.TheVariants.{NoRegister, NoTarget, NoWay, WriteBackFull}
use Rattle.slice_answer.specs.declared.answer.Stall.TheVariants.{WriteBackBusy}
use Rattle.stats_report.specs.Column.{name_of}
use Rattle.stats_report.specs.Report.{right_in_10}

repeat-space : (n : ℕ) → repeat {A = ℕ} n (32 ∷ []) ≡ replicate n 32
repeat-space zero = refl
repeat-space (suc n) = ap (λ rest. 32 ∷ rest) (repeat-space n)

-- a number's padding comes before it, and none after it
padded_front : (pad : ℕ) (text : List ℕ) → let space : List ℕ = 32 ∷ [] in
    (repeat pad space ++ [] ++ [] ++ []) ++ (text ++ repeat (pad - pad) space) ≡ replicate pad 32 ++ text
padded_front pad text =
    let none : ◌≡◌ {A = ℕ} (pad - pad) 0 = omega arith in
    simp (none, repeat-space pad, append-nil) refl

pub number_right : (n : ℕ) → styled_decimal (format_spec 32 3 0 10 (2 ^ 64 - 1)) n ≡ right_in_10 (decimal n)
unfolding padded_integral char_count encode
number_right n =
    let pad : ℕ = 10 - length (decimal n) - 0 - 0 in
    let same : pad ≡ 10 - length (decimal n) = omega arith in
    padded_front pad (decimal n) ∙ ap (λ k. replicate k 32 ++ decimal n) same

pub name_right : (column : Column)
    → styled_text (format_spec 32 3 0 10 (2 ^ 64 - 1)) (name_of column) ≡ right_in_10 (name_of column)
unfolding padded char_count take_chars encode
name_right Hits = refl
name_right Primary = refl
name_right Secondary = refl
name_right (Stall NoRegister) = refl
name_right (Stall NoTarget) = refl
name_right (Stall NoWay) = refl
name_right (Stall WriteBackFull) = refl
name_right (Stall WriteBackBusy) = refl
name_right Evictions = refl
name_right Silent = refl
