-- What is wrong after the name of a field is wrong with the line that configures.
use Rattle.std.proofs.Common.{◌≢◌, ℕ, Bool, List, [], ◌∷◌, Result, IfErr, arith, map, refl}
use Rattle.std.proofs.lemmas.Grind.{common_steps}
use Rattle.std.proofs.lemmas.Result.{IfErr-weaker}
use Rattle.address_map.specs.declared.address.WordAddr.{WordAddr}
use Rattle.address_map.specs.declared.config.PolicyKind.{PolicyKind}
use Rattle.litmus_text.specs.declared.config_line.ConfigLine.{ConfigLine}
use Rattle.litmus_text.specs.declared.config_line.ConfigLine.TheVariants as config_lines
use Rattle.litmus_text.specs.declared.fault.LineFault.{LineFault}
use Rattle.litmus_text.specs.declared.fault.LineFault.TheVariants as line_faults
use Rattle.litmus_text.specs.declared.field.Count.{Count}
use Rattle.litmus_text.specs.declared.field.Count.TheVariants as counts
use Rattle.litmus_text.specs.declared.field.Field.{Field}
use Rattle.litmus_text.specs.declared.field.Field.TheVariants as fields
use Rattle.mshr_file.specs.declared.kind.MissKind.{MissKind}
use Rattle.litmus_text.specs.ConfigLine.{parts_of_config_line, parts_of_misses, parts_of_policy, parts_of_setting}
use Rattle.litmus_text.specs.Field.{name_of}
use Rattle.litmus_text.specs.Form.{HasForm, IsFaultOf, IsFormFaultOf, Writes, one_part, two_parts}
use Rattle.litmus_text.proofs.FaultLemmas.{form_behind, form_refuses}
use Rattle.litmus_text.proofs.FormLemmas.{no_field}

-- no words have the form of no line
form_of_nothing : (line : ConfigLine) → HasForm [] (parts_of_config_line line) → ⊥
form_of_nothing (config_lines.Count count n) w = w
form_of_nothing (config_lines.Policy policy) w = w
form_of_nothing (config_lines.Misses kind) w = w
form_of_nothing (config_lines.Exclusive is_on) w = w
form_of_nothing (config_lines.Init word value) w = w
form_of_nothing (config_lines.Counter word) w = w

-- so this is what is wrong with them, and with words that begin with the name of no field
pub nothing_fault : IsFormFaultOf parts_of_config_line [] line_faults.NotACommand
unfolding IsFaultOf
nothing_fault = form_of_nothing

pub unnamed_fault : (name : List ℕ) (rest : List (List ℕ)) → ((field : Field) → name ≢ name_of field)
    → IsFormFaultOf parts_of_config_line (name ∷ rest) line_faults.NotACommand
unfolding IsFaultOf
unnamed_fault name rest other = no_field name rest other

-- words with a fault write none
pub refused_line : {X T : Type 0} (text : X → List ℕ) (words : List X) (r : Result T LineFault)
    → IfErr r (IsFormFaultOf parts_of_config_line (map text words))
    → IfErr r (λ fault. (line : ConfigLine) → Writes (map text words) (parts_of_config_line line) → ⊥)
refused_line text words r = IfErr-weaker r _ _ (form_refuses parts_of_config_line (map text words))

-- the lines of each field
only_count : (count : Count) (words : List (List ℕ)) (P : ConfigLine → Type 0) →
    ((n : ℕ) → P (config_lines.Count count n))
    → (line : ConfigLine) → HasForm (name_of (fields.Count count) ∷ words) (parts_of_config_line line) → P line
only_count counts.Cores words P h line form = grind (arith, common_steps)
only_count counts.Slices words P h line form = grind (arith, common_steps)
only_count counts.Lines words P h line form = grind (arith, common_steps)
only_count counts.Sets words P h line form = grind (arith, common_steps)
only_count counts.Ways words P h line form = grind (arith, common_steps)
only_count counts.Mshrs words P h line form = grind (arith, common_steps)
only_count counts.Targets words P h line form = grind (arith, common_steps)
only_count counts.Writebacks words P h line form = grind (arith, common_steps)

only_policy : (words : List (List ℕ)) (P : ConfigLine → Type 0) →
    ((policy : PolicyKind) → P (config_lines.Policy policy))
    → (line : ConfigLine) → HasForm (name_of fields.Policy ∷ words) (parts_of_config_line line) → P line
only_policy words P h line form = grind (arith, common_steps)

only_misses : (words : List (List ℕ)) (P : ConfigLine → Type 0) → ((kind : MissKind) → P (config_lines.Misses kind))
    → (line : ConfigLine) → HasForm (name_of fields.Misses ∷ words) (parts_of_config_line line) → P line
only_misses words P h line form = grind (arith, common_steps)

only_exclusive : (words : List (List ℕ)) (P : ConfigLine → Type 0) → ((is_on : Bool) → P (config_lines.Exclusive is_on))
    → (line : ConfigLine) → HasForm (name_of fields.Exclusive ∷ words) (parts_of_config_line line) → P line
only_exclusive words P h line form = grind (arith, common_steps)

only_init : (words : List (List ℕ)) (P : ConfigLine → Type 0)
    → ((word : WordAddr) (value : ℕ) → P (config_lines.Init word value))
    → (line : ConfigLine) → HasForm (name_of fields.Init ∷ words) (parts_of_config_line line) → P line
only_init words P h line form = grind (arith, common_steps)

only_counter : (words : List (List ℕ)) (P : ConfigLine → Type 0) → ((word : WordAddr) → P (config_lines.Counter word))
    → (line : ConfigLine) → HasForm (name_of fields.Counter ∷ words) (parts_of_config_line line) → P line
only_counter words P h line form = grind (arith, common_steps)

-- what is wrong with them
pub count_fault : (count : Count) (words : List (List ℕ)) (fault : LineFault) → IsFormFaultOf one_part words fault
    → IsFormFaultOf parts_of_config_line (name_of (fields.Count count) ∷ words) fault
count_fault count words =
    form_behind (name_of (fields.Count count)) words one_part parts_of_config_line (λ n. config_lines.Count count n)
    (only_count count words) (λ n. refl)

pub policy_fault : (words : List (List ℕ)) (fault : LineFault) → IsFormFaultOf parts_of_policy words fault
    → IsFormFaultOf parts_of_config_line (name_of fields.Policy ∷ words) fault
policy_fault words =
    form_behind (name_of fields.Policy) words parts_of_policy parts_of_config_line
    (λ policy. config_lines.Policy policy)
    (only_policy words) (λ policy. refl)

pub misses_fault : (words : List (List ℕ)) (fault : LineFault) → IsFormFaultOf parts_of_misses words fault
    → IsFormFaultOf parts_of_config_line (name_of fields.Misses ∷ words) fault
misses_fault words =
    form_behind (name_of fields.Misses) words parts_of_misses parts_of_config_line (λ kind. config_lines.Misses kind)
    (only_misses words) (λ kind. refl)

pub exclusive_fault : (words : List (List ℕ)) (fault : LineFault) → IsFormFaultOf parts_of_setting words fault
    → IsFormFaultOf parts_of_config_line (name_of fields.Exclusive ∷ words) fault
exclusive_fault words =
    form_behind (name_of fields.Exclusive) words parts_of_setting parts_of_config_line
    (λ is_on. config_lines.Exclusive is_on)
    (only_exclusive words) (λ is_on. refl)

pub init_fault : (words : List (List ℕ)) (fault : LineFault) → IsFormFaultOf two_parts words fault
    → IsFormFaultOf parts_of_config_line (name_of fields.Init ∷ words) fault
init_fault words =
    form_behind (name_of fields.Init) words two_parts parts_of_config_line
    (λ p. config_lines.Init (record { 0 = p.0 }) p.1)
    (λ P h. only_init words P (λ word value. h (word.0, value))) (λ p. refl)

pub counter_fault : (words : List (List ℕ)) (fault : LineFault) → IsFormFaultOf one_part words fault
    → IsFormFaultOf parts_of_config_line (name_of fields.Counter ∷ words) fault
counter_fault words =
    form_behind (name_of fields.Counter) words one_part parts_of_config_line
    (λ n. config_lines.Counter (record { 0 = n }))
    (λ P h. only_counter words P (λ word. h word.0)) (λ n. refl)
