-- What is wrong with words that begin as a setting.
use Rattle.std.proofs.Common.{◌≢◌, ℕ, List, [], ◌∷◌, refl, subst}
use Rattle.std.proofs.lemmas.Bool.{false≢true}
use Rattle.std.specs.Str.{bytes_eq}
use Rattle.std.specs.Prelude.{codes, IsTrue}
use Rattle.litmus_text.specs.Form.{HasForm, IsFaultOf, IsFormFaultOf, Writes, one_part}
use Rattle.litmus_text.specs.ConfigLine.{parts_of_config_line}
use Rattle.litmus_text.specs.declared.config_line.ConfigLine.{ConfigLine}
use Rattle.litmus_text.specs.declared.config_line.ConfigLine.TheVariants as config_lines
use Rattle.litmus_text.specs.declared.fault.LineFault.{LineFault}
use Rattle.litmus_text.specs.declared.fault.LineFault.TheVariants as line_faults
use Rattle.litmus_text.proofs.FaultLemmas.{fault_of_part, form_behind}
use Rattle.litmus_text.proofs.FieldLemmas.{is_no_field, no_field_name}
use Rattle.litmus_text.proofs.FormLemmas.{HasForm-Writes, no_field}
use Rattle.litmus_test.specs.declared.setting.Setting.{Setting}
use Rattle.litmus_test.specs.declared.setting.Setting.TheVariants as settings
use Rattle.litmus_test.specs.Line.{parts_of_setting}

-- no words are none
pub no_words_wrong : IsFormFaultOf parts_of_setting [] line_faults.NotACommand
unfolding IsFaultOf
no_words_wrong (settings.Config (config_lines.Count count n)) h = h
no_words_wrong (settings.Config (config_lines.Policy policy)) h = h
no_words_wrong (settings.Config (config_lines.Misses kind)) h = h
no_words_wrong (settings.Config (config_lines.Exclusive is_on)) h = h
no_words_wrong (settings.Config (config_lines.Init word value)) h = h
no_words_wrong (settings.Config (config_lines.Counter word)) h = h
no_words_wrong (settings.Rounds n) h = h
no_words_wrong (settings.Movers n) h = h

no_config : (name : List ℕ) (words : List (List ℕ)) (line : ConfigLine) → IsTrue (is_no_field name)
    → HasForm (name ∷ words) (parts_of_config_line line) → ⊥
no_config name words line other form =
    no_field name words (λ field is. no_field_name name other (field, is)) line form

only_rounds : (words : List (List ℕ)) (P : Setting → Type 0) → ((n : ℕ) → P (settings.Rounds n)) → (s : Setting)
    → HasForm (codes "rounds" ∷ words) (parts_of_setting s) → P s
only_rounds words P h (settings.Config line) form =
    absurd (no_config (codes "rounds") words line refl form)
only_rounds words P h (settings.Rounds n) form = h n
only_rounds words P h (settings.Movers n) form =
    absurd (false≢true (subst (λ w. IsTrue (bytes_eq w (codes "rounds"))) form.0 refl))

only_movers : (words : List (List ℕ)) (P : Setting → Type 0) → ((n : ℕ) → P (settings.Movers n)) → (s : Setting)
    → HasForm (codes "movers" ∷ words) (parts_of_setting s) → P s
only_movers words P h (settings.Config line) form =
    absurd (no_config (codes "movers") words line refl form)
only_movers words P h (settings.Rounds n) form =
    absurd (false≢true (subst (λ w. IsTrue (bytes_eq w (codes "movers"))) form.0 refl))
only_movers words P h (settings.Movers n) form = h n

pub rounds_wrong : (words : List (List ℕ)) (fault : LineFault) → IsFormFaultOf one_part words fault
    → IsFormFaultOf parts_of_setting (codes "rounds" ∷ words) fault
rounds_wrong words =
    form_behind (codes "rounds") words one_part parts_of_setting (λ n. settings.Rounds n) (only_rounds words)
    (λ n. refl)

pub movers_wrong : (words : List (List ℕ)) (fault : LineFault) → IsFormFaultOf one_part words fault
    → IsFormFaultOf parts_of_setting (codes "movers" ∷ words) fault
movers_wrong words =
    form_behind (codes "movers") words one_part parts_of_setting (λ n. settings.Movers n) (only_movers words)
    (λ n. refl)

only_config : (name : List ℕ) (words : List (List ℕ)) → name ≢ codes "rounds" → name ≢ codes "movers"
    → (P : Setting → Type 0) → ((line : ConfigLine) → P (settings.Config line)) → (s : Setting)
    → HasForm (name ∷ words) (parts_of_setting s) → P s
only_config name words no_rounds no_movers P h (settings.Config line) form = h line
only_config name words no_rounds no_movers P h (settings.Rounds n) form = absurd (no_rounds form.0)
only_config name words no_rounds no_movers P h (settings.Movers n) form = absurd (no_movers form.0)

-- words of neither name are checked as a line that configures
pub config_wrong : (name : List ℕ) (words : List (List ℕ)) (fault : LineFault) → name ≢ codes "rounds"
    → name ≢ codes "movers" → IsFormFaultOf parts_of_config_line (name ∷ words) fault
    → IsFormFaultOf parts_of_setting (name ∷ words) fault
config_wrong name words fault no_rounds no_movers =
    fault_of_part (λ line. HasForm (name ∷ words) (parts_of_config_line line))
    (λ line. Writes (name ∷ words) (parts_of_config_line line)) (λ line. Unit {0})
    (λ s. HasForm (name ∷ words) (parts_of_setting s)) (λ s. Writes (name ∷ words) (parts_of_setting s))
    (λ s. Unit {0})
    (λ line. settings.Config line) (only_config name words no_rounds no_movers) (λ line f. f) (λ line f. f)
    (λ line w. w) (λ line w. w) (λ line has. has)
    (λ s w. HasForm-Writes (name ∷ words) (parts_of_setting s) w) fault
