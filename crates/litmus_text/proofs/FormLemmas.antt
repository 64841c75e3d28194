-- Words that write parts.
use Rattle.std.proofs.Common.{◌≡◌, ℕ, ◌≢◌, List, [], ◌∷◌, length, map, refl, sym, ◌∙◌, ap, suc, arith}
use Rattle.std.proofs.lemmas.List.{length-map}
use Rattle.litmus_text.specs.declared.config_line.ConfigLine.{ConfigLine}
use Rattle.litmus_text.specs.declared.config_line.ConfigLine.TheVariants as config_lines
use Rattle.litmus_text.specs.declared.field.Field.{Field}
use Rattle.litmus_text.specs.declared.field.Field.TheVariants as fields
use Rattle.litmus_text.specs.ConfigLine.{parts_of_config_line}
use Rattle.litmus_text.specs.Field.{name_of}
use Rattle.litmus_text.specs.Form.{Part, key, num, Writes, HasForm}

-- the texts of no words
pub no_words : {X : Type 0} (text : X → List ℕ) (words : List X) → length words ≡ 0 → map text words ≡ []
no_words text [] e = refl
no_words text (word ∷ words) e = absurd (omega arith)

-- there is a word for each part
Writes-length : (words : List (List ℕ)) (parts : List Part) → Writes words parts → length words ≡ length parts
Writes-length [] [] w = refl
Writes-length [] (key text ∷ parts) w = absurd w
Writes-length [] (num n ∷ parts) w = absurd w
Writes-length (word ∷ words) [] w = absurd w
Writes-length (word ∷ words) (key text ∷ parts) w = ap suc (Writes-length words parts w.1)
Writes-length (word ∷ words) (num n ∷ parts) w = ap suc (Writes-length words parts w.2)

-- words of another number than the parts don't write them
pub wrong_count : {X : Type 0} (text : X → List ℕ) (words : List X) (parts : List Part) → length words ≢ length parts
    → Writes (map text words) parts → ⊥
wrong_count text words parts other w = other (sym (length-map words text) ∙ Writes-length (map text words) parts w)

HasForm-length : (words : List (List ℕ)) (parts : List Part) → HasForm words parts → length words ≡ length parts
HasForm-length [] [] w = refl
HasForm-length [] (key text ∷ parts) w = absurd w
HasForm-length [] (num n ∷ parts) w = absurd w
HasForm-length (word ∷ words) [] w = absurd w
HasForm-length (word ∷ words) (key text ∷ parts) w = ap suc (HasForm-length words parts w.1)
HasForm-length (word ∷ words) (num n ∷ parts) w = ap suc (HasForm-length words parts w)

-- words of another number than the parts don't have their form
pub wrong_form : {X : Type 0} (text : X → List ℕ) (words : List X) (parts : List Part) → length words ≢ length parts
    → HasForm (map text words) parts → ⊥
wrong_form text words parts other w = other (sym (length-map words text) ∙ HasForm-length (map text words) parts w)

-- words that write parts have their form
pub HasForm-Writes : (words : List (List ℕ)) (parts : List Part) → Writes words parts → HasForm words parts
HasForm-Writes [] [] w = tt
HasForm-Writes [] (key text ∷ parts) w = w
HasForm-Writes [] (num n ∷ parts) w = w
HasForm-Writes (word ∷ words) [] w = w
HasForm-Writes (word ∷ words) (key text ∷ parts) w = (w.0, HasForm-Writes words parts w.1)
HasForm-Writes (word ∷ words) (num n ∷ parts) w = HasForm-Writes words parts w.2

-- words that begin with the name of no field have the form of no line that configures the machine
pub no_field : (name : List ℕ) (rest : List (List ℕ)) → ((field : Field) → name ≢ name_of field)
    → (line : ConfigLine) → HasForm (name ∷ rest) (parts_of_config_line line) → ⊥
no_field name rest other (config_lines.Count count n) w = other (fields.Count count) w.0
no_field name rest other (config_lines.Policy policy) w = other fields.Policy w.0
no_field name rest other (config_lines.Misses kind) w = other fields.Misses w.0
no_field name rest other (config_lines.Exclusive is_on) w = other fields.Exclusive w.0
no_field name rest other (config_lines.Init word value) w = other fields.Init w.0
no_field name rest other (config_lines.Counter word) w = other fields.Counter w.0

-- and write none
pub no_field_written : (name : List ℕ) (rest : List (List ℕ)) → ((field : Field) → name ≢ name_of field)
    → (line : ConfigLine) → Writes (name ∷ rest) (parts_of_config_line line) → ⊥
no_field_written name rest other line w =
    no_field name rest other line (HasForm-Writes (name ∷ rest) (parts_of_config_line line) w)
