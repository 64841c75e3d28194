-- The first words of the lines that configure a machine.
use Rattle.std.proofs.Common.{◌≡◌, ◌≢◌, ℕ, Bool, not, List, [], ◌∷◌, Option, None, Some, map, refl, rules, subst}
use Rattle.std.specs.Prelude.{◌↔◌, codes, IsTrue}
use Rattle.std.specs.Option.{is_some}
use Rattle.std.specs.List.{list_all}
use Rattle.std.specs.Str.{bytes_eq}
use Rattle.litmus_text.specs.declared.config_line.ConfigLine.{ConfigLine}
use Rattle.litmus_text.specs.declared.config_line.ConfigLine.TheVariants as config_lines
use Rattle.litmus_text.specs.declared.field.Count.TheVariants as counts
use Rattle.litmus_text.specs.declared.field.Field.{Field}
use Rattle.litmus_text.specs.declared.field.Field.TheVariants as fields
use Rattle.litmus_text.specs.declared.field.TheConstants.{FIELDS}
use Rattle.litmus_text.specs.ConfigLine.{parts_of_config_line}
use Rattle.litmus_text.specs.Field.{name_of, IsFieldName}
use Rattle.litmus_text.specs.Form.{Writes}
use Rattle.litmus_text.specs.Table.{value_named}
use Rattle.litmus_text.proofs.TableLemmas.{Each, named, unnamed}

-- whether a word is the name of no field
abbrev pub is_no_field : List ℕ → Bool
is_no_field word =
    list_all (λ name. not (bytes_eq word name))
    (codes "cores" ∷ codes "slices" ∷ codes "lines" ∷ codes "sets" ∷ codes "ways" ∷ codes "mshrs" ∷ codes "targets"
    ∷ codes "writebacks" ∷ codes "policy" ∷ codes "misses" ∷ codes "exclusive" ∷ codes "init" ∷ codes "counter" ∷ [])

fields_named : (field : Field) → IsTrue (is_no_field (name_of field)) → ⊥
fields_named (fields.Count counts.Cores) other = cc
fields_named (fields.Count counts.Slices) other = cc
fields_named (fields.Count counts.Lines) other = cc
fields_named (fields.Count counts.Sets) other = cc
fields_named (fields.Count counts.Ways) other = cc
fields_named (fields.Count counts.Mshrs) other = cc
fields_named (fields.Count counts.Targets) other = cc
fields_named (fields.Count counts.Writebacks) other = cc
fields_named fields.Policy other = cc
fields_named fields.Misses other = cc
fields_named fields.Exclusive other = cc
fields_named fields.Init other = cc
fields_named fields.Counter other = cc

pub no_field_name : (word : List ℕ) → IsTrue (is_no_field word) → IsFieldName word → ⊥
no_field_name word other is = fields_named is.0 (subst (λ w. IsTrue (is_no_field w)) is.1 other)

-- words that write a line that configures the machine begin with the name of a field
pub field_name : (word : List ℕ) (words : List (List ℕ)) (line : ConfigLine)
    → Writes (word ∷ words) (parts_of_config_line line) → IsFieldName word
field_name word words (config_lines.Count count n) h = (fields.Count count, h.0)
field_name word words (config_lines.Policy policy) h = (fields.Policy, h.0)
field_name word words (config_lines.Misses kind) h = (fields.Misses, h.0)
field_name word words (config_lines.Exclusive is_on) h = (fields.Exclusive, h.0)
field_name word words (config_lines.Init w value) h = (fields.Init, h.0)
field_name word words (config_lines.Counter w) h = (fields.Counter, h.0)

-- the table of fields, by their names
abbrev names : List (List ℕ × Field)
names = map (λ entry. (entry.0.now, entry.1)) FIELDS

-- it has each
no_field : (name : List ℕ) → Each (λ entry. name ≢ entry.0) names → (field : Field) → name ≢ name_of field
no_field name other (fields.Count counts.Cores) = other.0
no_field name other (fields.Count counts.Slices) = other.1.0
no_field name other (fields.Count counts.Lines) = other.1.1.0
no_field name other (fields.Count counts.Sets) = other.1.1.1.0
no_field name other (fields.Count counts.Ways) = other.1.1.1.1.0
no_field name other (fields.Count counts.Mshrs) = other.1.1.1.1.1.0
no_field name other (fields.Count counts.Targets) = other.1.1.1.1.1.1.0
no_field name other (fields.Count counts.Writebacks) = other.1.1.1.1.1.1.1.0
no_field name other fields.Policy = other.1.1.1.1.1.1.1.1.0
no_field name other fields.Misses = other.1.1.1.1.1.1.1.1.1.0
no_field name other fields.Exclusive = other.1.1.1.1.1.1.1.1.1.1.0
no_field name other fields.Init = other.1.1.1.1.1.1.1.1.1.1.1.0
no_field name other fields.Counter = other.1.1.1.1.1.1.1.1.1.1.1.1.0

pub named_field : (name : List ℕ) (field : Field) → Some field ≡ value_named names name → name ≡ name_of field
named_field name field found =
    named (λ name field. name ≡ name_of field) names name (Some field) found (search rules)

pub unnamed_field : (name : List ℕ) → None ≡ value_named names name → (field : Field) → name ≢ name_of field
unnamed_field name missing = unnamed _ names name None missing (no_field name)

-- a name is found where it is one of a field
pub is_field_name : (name : List ℕ) (found : Option Field) (answer : Bool) → found ≡ value_named names name
    → answer ≡ is_some found → IsTrue answer ↔ IsFieldName name
is_field_name name None answer e is = rw is (λ some. absurd (cc), λ named. absurd (unnamed_field name e named.0 named.1))
is_field_name name (Some field) answer e is = rw is (λ some. (field, named_field name field e), λ named. refl)
