-- The form of a line: keywords and numbers.
use Rattle.std.specs.Prelude.{◌≡◌, ℕ, List, [], ◌∷◌}
use Rattle.std.specs.Str.Parse.{digits_value}
use Rattle.litmus_text.specs.Number.{IsNumber}
use Rattle.litmus_text.specs.declared.fault.LineFault.{LineFault}
use Rattle.litmus_text.specs.declared.fault.LineFault.TheVariants as line_faults

-- a place in a line: a keyword, or a number of this value
pub data Part : Type 0 where
  key : List ℕ → Part
  num : ℕ → Part

-- the words write the parts, one word a part
abbrev pub Writes : List (List ℕ) → List Part → Type 0
Writes [] [] = Unit {0}
Writes [] (part ∷ parts) = ⊥
Writes (word ∷ rest) [] = ⊥
Writes (word ∷ rest) (key text ∷ parts) = (word ≡ text) × Writes rest parts
Writes (word ∷ rest) (num n ∷ parts) = IsNumber word × (digits_value 10 word ≡ n) × Writes rest parts

-- the words have the form of the parts: one word a part, with the keywords in their places, and any words for numbers
abbrev pub HasForm : List (List ℕ) → List Part → Type 0
HasForm [] [] = Unit {0}
HasForm [] (part ∷ parts) = ⊥
HasForm (word ∷ rest) [] = ⊥
HasForm (word ∷ rest) (key text ∷ parts) = (word ≡ text) × HasForm rest parts
HasForm (word ∷ rest) (num n ∷ parts) = HasForm rest parts

-- What is wrong with words that are none of some lines. `Form`, `Says` and `Has` hold of the lines whose form the words
-- have, that they say, and that the machine has. The words have the form of none; or of one, but say none, since a
-- number can't be read; or they say one, but none that the machine has.
unfoldable pub IsFaultOf : {X : Type 0} → (X → Type 0) → (X → Type 0) → (X → Type 0) → LineFault → Type 0
IsFaultOf {X} Form Says Has line_faults.NotACommand = (x : X) → ¬ Form x
IsFaultOf {X} Form Says Has line_faults.BadNumber = ((x : X) × Form x) × ((x : X) → ¬ Says x)
IsFaultOf {X} Form Says Has line_faults.OutOfRange = ((x : X) × Says x) × ((x : X) → Says x → ¬ Has x)
IsFaultOf Form Says Has fault = ⊥

-- what is wrong with words that write none of these lines
abbrev pub IsFormFaultOf : {X : Type 0} → (X → List Part) → List (List ℕ) → LineFault → Type 0
IsFormFaultOf {X} parts words fault =
    IsFaultOf (λ (x : X). HasForm words (parts x)) (λ (x : X). Writes words (parts x)) (λ (x : X). Unit {0}) fault

-- zero to three numbers
abbrev pub no_parts : Unit {0} → List Part
no_parts nothing = []

abbrev pub one_part : ℕ → List Part
one_part n = num n ∷ []

abbrev pub two_parts : ℕ × ℕ → List Part
two_parts p = num p.0 ∷ num p.1 ∷ []

abbrev pub three_parts : ℕ × ℕ × ℕ → List Part
three_parts p = num p.0 ∷ num p.1 ∷ num p.2 ∷ []
