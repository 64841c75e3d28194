-- The 64-bit FNV-1a hash of a text.
use Rattle.std.specs.Prelude.{ℕ, ◌*◌, ◌%◌, ◌^◌, List, [], ◌∷◌, bit_xor}

-- each byte in turn
abbrev pub sum_from : ℕ → List ℕ → ℕ
sum_from sum [] = sum
sum_from sum (byte ∷ text) = sum_from ((bit_xor sum byte * 1099511628211) % 2 ^ 64) text

abbrev pub sum_of : List ℕ → ℕ
sum_of text = sum_from 14695981039346656037 text
