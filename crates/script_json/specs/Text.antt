-- The texts that make up values of JSON (RFC 8259).
use Rattle.std.specs.Prelude.{ℕ, ◌==◌, ◌&&◌, Bool, false, not, nat_le, List, [], ◌∷◌, ◌++◌, codes, if◌then◌else◌, length}
use Rattle.std.specs.List.{flat_map, list_all}

-- a byte between quotes: quotes, backslashes and tabs are escaped
abbrev pub escaped : ℕ → List ℕ
escaped byte =
    if byte == 34 then codes "\\\"" else if byte == 92 then codes "\\\\" else if byte == 9 then codes "\\t"
    else byte ∷ []

-- a text between quotes
abbrev pub quoted : List ℕ → List ℕ
quoted text = codes "\"" ++ flat_map escaped text ++ codes "\""

abbrev pub is_digit : ℕ → Bool
is_digit byte = nat_le 48 byte && nat_le byte 57

-- a single digit, or digits that don't begin with 0
abbrev pub is_number : List ℕ → Bool
is_number [] = false
is_number (first ∷ []) = is_digit first
is_number (first ∷ next ∷ more) = not (first == 48) && list_all is_digit (first ∷ next ∷ more)

-- .. of at most 15 digits, which a reader keeps as it is
abbrev pub is_exact : List ℕ → Bool
is_exact word = is_number word && nat_le (length word) 15

-- such a number as it is, and any other word between quotes
abbrev pub value_of : List ℕ → List ℕ
value_of word = if is_exact word then word else quoted word
