-- What a text writes as a number.
use Rattle.std.specs.Prelude.{ℕ, ◌<◌, ◌≤◌, ◌^◌, List, length}
use Rattle.std.specs.Str.Parse.{IsNumeral, digits_value}

-- one to twenty decimal digits, also with leading zeros, of a value below 2^64
abbrev pub IsNumber : List ℕ → Type 0
IsNumber word = IsNumeral 10 word × (length word ≤ 20) × (digits_value 10 word < 2 ^ 64)
