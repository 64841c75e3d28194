-- A number in JSON: one of more than 15 digits, which a reader may round, is a string.
use Rattle.std.specs.Prelude.{ℕ, Bool, List, ◌++◌, codes, decimal, if◌then◌else◌, nat_lt}

-- it has at most 15 digits
abbrev pub is_exact : ℕ → Bool
is_exact number = nat_lt number 1000000000000000

abbrev pub number_of : ℕ → List ℕ
number_of number = if is_exact number then decimal number else codes "\"" ++ decimal number ++ codes "\""
