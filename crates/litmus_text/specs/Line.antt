-- The text of a line of keywords and numbers.
use Rattle.std.specs.Prelude.{ℕ, List, [], ◌∷◌, ◌++◌, codes, decimal}
use Rattle.litmus_text.specs.Form.{Part, key, num}

-- a keyword as it is, and a number in decimal
abbrev pub text_of_part : Part → List ℕ
text_of_part (key text) = text
text_of_part (num n) = decimal n

-- the parts with a blank between each two
abbrev pub text_of_parts : List Part → List ℕ
text_of_parts [] = []
text_of_parts (part ∷ []) = text_of_part part
text_of_parts (part ∷ next ∷ more) = text_of_part part ++ (codes " " ++ text_of_parts (next ∷ more))

-- .. and the line's end
abbrev pub line_of_parts : List Part → List ℕ
line_of_parts parts = text_of_parts parts ++ codes "\n"
