-- The digits of a number, one after the other.
use Rattle.std.proofs.Common.{ℕ, zero, suc, ◌≡◌, ◌+◌, ◌*◌, ◌<◌, ◌≤◌, ◌^◌, List, [], ◌∷◌, length, take, get_or, arith}
use Rattle.std.proofs.Common.{add-one, ap, sym, ◌∙◌, subst}
use Rattle.std.specs.Char.{digit_value}
use Rattle.std.specs.Str.Parse.{AllDigits, digits_value}
use Rattle.std.proofs.lemmas.Int.Digits.{digits_value_more}
use Rattle.std.proofs.lemmas.List.{take_all}
use Rattle.std.proofs.lemmas.Str.Parse.{digits_value-take-le}
use Rattle.litmus_text.specs.Number.{IsNumber}

digit_at : (ds : List ℕ) (i : ℕ) → AllDigits 10 ds → i < length ds → digit_value (get_or ds i 0) < 10
digit_at [] i h below = absurd (omega arith)
digit_at (c ∷ cs) zero h below = h.0
digit_at (c ∷ cs) (suc i) h below = digit_at cs i h.1 (omega arith)

digits_then : (ds : List ℕ) (i : ℕ) → i < length ds → AllDigits 10 (take i ds) → digit_value (get_or ds i 0) < 10
    → AllDigits 10 (take (suc i) ds)
digits_then [] i below h digit = absurd (omega arith)
digits_then (c ∷ cs) zero below h digit = (digit, tt)
digits_then (c ∷ cs) (suc i) below h digit = (h.0, digits_then cs i (omega arith) h.1 digit)

-- what is read up to a place: digits, of this value, which fits
pub record ReadUpTo (ds : List ℕ) (i n : ℕ) : Type 0 where
  pub digits : AllDigits 10 (take i ds)
  pub value : n ≡ digits_value 10 (take i ds)
  pub fits : n < 2 ^ 64

longer : (ds : List ℕ) (i n : ℕ) → i < length ds → ReadUpTo ds i n
    → n * 10 + digit_value (get_or ds i 0) ≡ digits_value 10 (take (i + 1) ds)
longer ds i n below read =
    ap (λ k. k * 10 + digit_value (get_or ds i 0)) read.value ∙ sym (digits_value_more 10 ds i below)

-- a digit more
pub read_digit : (ds : List ℕ) (i n : ℕ) → i < length ds → ReadUpTo ds i n → digit_value (get_or ds i 0) < 10
    → n * 10 + digit_value (get_or ds i 0) < 2 ^ 64 → ReadUpTo ds (i + 1) (n * 10 + digit_value (get_or ds i 0))
read_digit ds i n below read digit fits = record {
  digits = rw add-one (digits_then ds i below read.digits digit);
  value = longer ds i n below read;
  fits = fits;
}

-- in a number the next byte is a digit, and with it the number fits
pub next_fits : (ds : List ℕ) (i n : ℕ) → i < length ds → ReadUpTo ds i n → IsNumber ds
    → (digit_value (get_or ds i 0) < 10) × (n * 10 + digit_value (get_or ds i 0) < 2 ^ 64)
next_fits ds i n below read number = (
  digit_at ds i number.0.1 below,
  omega (arith, longer ds i n below read, digits_value-take-le 10 ds (i + 1) (omega arith)),
)

-- all is read
pub read_whole : (ds : List ℕ) (n : ℕ) → 0 < length ds → length ds ≤ 20 → ReadUpTo ds (length ds) n
    → IsNumber ds × (n ≡ digits_value 10 ds)
read_whole ds n some few read =
    let whole = take_all (length ds) ds (omega arith) in
    let value : n ≡ digits_value 10 ds = read.value ∙ ap (digits_value 10) whole in
    (((some, subst (AllDigits 10) whole read.digits), few, omega (arith, read.fits)), value)
