-- Texts, words and lists as values of JSON (RFC 8259).
use Rattle.std.specs.Prelude.{ℕ, ◌/◌, ◌%◌, ◌==◌, ◌&&◌, ◌||◌, nat_lt, nat_le, not, Bool, true, false, List, [], ◌∷◌}
use Rattle.std.specs.Prelude.{◌++◌, codes, decimal, get_or, if◌then◌else◌, map, Option, Some, None}
use Rattle.std.specs.List.{flat_map}
use Rattle.address_map.specs.CoreSet.{members}
use Rattle.address_map.specs.declared.address.LineAddr.{LineAddr}
use Rattle.address_map.specs.declared.block.Block.{Block}
use Rattle.litmus_text.specs.JsonList.{with_commas}
use Rattle.slice_text.specs.Cores.{text_of_cores}

-- a number below 16 as one digit
abbrev pub hex_digit : ℕ → ℕ
hex_digit number = get_or (codes "0123456789abcdef") number 0

-- the bytes that represent themselves: those that are printed, except what ends a string, begins an escape, or begins
-- an HTML tag
abbrev pub is_plain : ℕ → Bool
is_plain byte = nat_le 32 byte && nat_lt byte 127 && not (byte == 34 || byte == 92 || byte == 60)

-- a byte as itself, or by its number
abbrev pub text_as : Bool → ℕ → List ℕ
text_as true byte = byte ∷ []
text_as false byte = codes "\\u00" ++ ((hex_digit (byte / 16) ∷ []) ++ (hex_digit (byte % 16) ∷ []))

-- a byte in a string
abbrev pub text_of_byte : ℕ → List ℕ
text_of_byte byte = text_as (is_plain byte) byte

-- the bytes between quotation marks
abbrev pub json_of : List ℕ → List ℕ
json_of bytes = codes "\"" ++ (flat_map text_of_byte bytes ++ codes "\"")

-- ---- lists

-- a word, as a string of its digits
abbrev pub text_of_value : ℕ → List ℕ
text_of_value value = codes "\"" ++ decimal value ++ codes "\""

abbrev pub list_of_values : List ℕ → List ℕ
list_of_values words = codes "[" ++ (with_commas (map text_of_value words) ++ codes "]")

-- a block, or null if there is none
abbrev pub text_of_block : Option Block → List ℕ
text_of_block None = codes "null"
text_of_block (Some block) = list_of_values block.words

abbrev pub text_of_line_number : LineAddr → List ℕ
text_of_line_number line = decimal line.0

abbrev pub list_of_lines : List LineAddr → List ℕ
list_of_lines lines = codes "[" ++ (with_commas (map text_of_line_number lines) ++ codes "]")

abbrev pub list_of_cores : ℕ → List ℕ
list_of_cores set = if set == 0 then codes "[]" else codes "[" ++ text_of_cores (members set) ++ codes "]"
