-- Lists of texts with commas between them.
use Rattle.std.specs.Prelude.{ℕ, Bool, true, false, List, [], ◌∷◌, ◌++◌, codes}

-- what precedes a text of a list: a comma, except before the first
abbrev pub before_text : Bool → List ℕ
before_text true = []
before_text false = codes ","

-- texts, each after a comma, except the first if it is the first of the list
abbrev pub with_commas_from : Bool → List (List ℕ) → List ℕ
with_commas_from first [] = []
with_commas_from first (text ∷ texts) = (before_text first ++ text) ++ with_commas_from false texts

-- texts with commas between them
abbrev pub with_commas : List (List ℕ) → List ℕ
with_commas texts = with_commas_from true texts
