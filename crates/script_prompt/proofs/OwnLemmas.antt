-- What words are that begin with a word of the prompt's own.
use Rattle.std.proofs.Common.{◌≡◌, ◌≢◌, ◌∙◌, ℕ, ◌<◌, List, [], ◌∷◌, Bor, Option, None, Some, Result, IsErrAnd, arith}
use Rattle.std.proofs.Common.{length, map, refl, subst, sym}
use Rattle.std.proofs.lemmas.Grind.{common_steps}
use Rattle.std.proofs.lemmas.Result.{err_from_is_err_and}
use Rattle.std.specs.Prelude.{codes}
use Rattle.std.specs.Str.Parse.{digits_value}
use Rattle.address_map.specs.declared.address.CoreId.{CoreId}
use Rattle.address_map.specs.declared.address.SliceId.{SliceId}
use Rattle.address_map.specs.declared.address.WordAddr.{WordAddr}
use Rattle.address_map.specs.declared.config.Config.{Config}
use Rattle.address_map.specs.declared.request.Op.TheVariants as ops
use Rattle.litmus_text.proofs.FaultLemmas.{fault_behind, fault_of_part, lacks}
use Rattle.litmus_text.proofs.FormLemmas.{HasForm-Writes}
use Rattle.litmus_text.specs.Form.{Part, key, num, HasForm, IsFaultOf, IsFormFaultOf, Writes, no_parts, one_part}
use Rattle.litmus_text.specs.Form.{three_parts, two_parts}
use Rattle.litmus_text.specs.Number.{IsNumber}
use Rattle.litmus_text.specs.declared.fault.LineFault.{LineFault}
use Rattle.litmus_text.specs.declared.fault.LineFault.TheVariants as line_faults
use Rattle.script_prompt.specs.Own.{HasOwn, HasSlice, IsFaultOfOwn, ReadsAsOwn, parts_of, parts_of_access}
use Rattle.script_prompt.specs.Own.{parts_of_slice}
use Rattle.script_prompt.specs.declared.own.Own.{Own}
use Rattle.script_prompt.specs.declared.own.Own.TheVariants as owns

-- a `?` returns what is wrong with the words
pub reads_none : {config : Config} {said : List (List ℕ)} (fault : LineFault) (r : Result Own LineFault)
    → IsErrAnd r (λ x. x ≡ fault) → IsFaultOfOwn config said fault → ReadsAsOwn config said r
reads_none {config} {said} fault r is wrong =
    let p = err_from_is_err_and r is in
    rw p.1 (record { written = tt; in_range = tt; fault = subst (IsFaultOfOwn config said) (sym p.2) wrong })

-- words with a fault write no line that the machine has
pub refuses : (config : Config) (said : List (List ℕ)) (fault : LineFault) → IsFaultOfOwn config said fault
    → (own : Own) → Writes said (parts_of own) → ¬ HasOwn config own
unfolding IsFaultOf
refuses config said line_faults.NotACommand wrong own written has =
    wrong own (HasForm-Writes said (parts_of own) written)
refuses config said line_faults.BadNumber wrong own written has = wrong.1 own written
refuses config said line_faults.OutOfRange wrong own written has = wrong.1 own written has
refuses config said other wrong own written has = wrong

-- ---- what is wrong after a word is wrong with the line

behind_word : {X : Type 0} (config : Config) (name : List ℕ) (words : List (List ℕ)) (behind : X → List Part)
    (Has : X → Type 0) (line : X → Own)
    → ((P : Own → Type 0) → ((x : X) → P (line x)) → (own : Own) → HasForm (name ∷ words) (parts_of own) → P own)
    → ((x : X) → parts_of (line x) ≡ key name ∷ behind x) → ((x : X) → HasOwn config (line x) → Has x)
    → (fault : LineFault) → IsFaultOf (λ x. HasForm words (behind x)) (λ x. Writes words (behind x)) Has fault
    → IsFaultOfOwn config (name ∷ words) fault
behind_word config name words behind Has line only is has =
    fault_behind name words behind Has parts_of (λ own. Writes (name ∷ words) (parts_of own))
    (HasOwn config) line only is
    (λ x w. w) (λ own w. w) has

-- the lines of each word
only_load : (words : List (List ℕ)) (P : Own → Type 0)
    → ((core : CoreId) (word : WordAddr) → P (owns.Access core ops.Load word))
    → (own : Own) → HasForm (codes "load" ∷ words) (parts_of own) → P own
unfolding parts_of_access
only_load words P h own form = grind (arith, common_steps)

only_store : (words : List (List ℕ)) (P : Own → Type 0)
    → ((core : CoreId) (word : WordAddr) (value : ℕ) → P (owns.Access core (ops.Store value) word))
    → (own : Own) → HasForm (codes "store" ∷ words) (parts_of own) → P own
unfolding parts_of_access
only_store words P h own form = grind (arith, common_steps)

only_add : (words : List (List ℕ)) (P : Own → Type 0)
    → ((core : CoreId) (word : WordAddr) (delta : ℕ) → P (owns.Access core (ops.Add delta) word))
    → (own : Own) → HasForm (codes "add" ∷ words) (parts_of own) → P own
unfolding parts_of_access
only_add words P h own form = grind (arith, common_steps)

only_cas : (words : List (List ℕ)) (P : Own → Type 0)
    → ((core : CoreId) (word : WordAddr) (expect new : ℕ) → P (owns.Access core (ops.Cas expect new) word))
    → (own : Own) → HasForm (codes "cas" ∷ words) (parts_of own) → P own
unfolding parts_of_access
only_cas words P h own form = grind (arith, common_steps)

only_next : (words : List (List ℕ)) (P : Own → Type 0) → ((slice : Option SliceId) → P (owns.Next slice))
    → (own : Own) → HasForm (codes "next" ∷ words) (parts_of own) → P own
unfolding parts_of_access
only_next words P h own form = grind (arith, common_steps)

only_undo : (words : List (List ℕ)) (P : Own → Type 0) → P owns.Undo
    → (own : Own) → HasForm (codes "undo" ∷ words) (parts_of own) → P own
unfolding parts_of_access
only_undo words P h own form = grind (arith, common_steps)

only_save : (words : List (List ℕ)) (P : Own → Type 0) → ((name : Bor (List ℕ)) → P (owns.Save name))
    → (own : Own) → HasForm (codes "save" ∷ words) (parts_of own) → P own
unfolding parts_of_access
only_save words P h own form = grind (arith, common_steps)

only_help : (words : List (List ℕ)) (P : Own → Type 0) → P owns.Help
    → (own : Own) → HasForm (codes "help" ∷ words) (parts_of own) → P own
unfolding parts_of_access
only_help words P h own form = grind (arith, common_steps)

only_quit : (words : List (List ℕ)) (P : Own → Type 0) → P owns.Quit
    → (own : Own) → HasForm (codes "quit" ∷ words) (parts_of own) → P own
unfolding parts_of_access
only_quit words P h own form = grind (arith, common_steps)

-- the machine has the core whose number is the first
abbrev pub HasFirst : Config → ℕ → Type 0
HasFirst config core = core < config.cores

pub load_fault : (config : Config) (words : List (List ℕ)) (fault : LineFault)
    → IsFaultOf (λ p. HasForm words (two_parts p)) (λ p. Writes words (two_parts p)) (λ p. HasFirst config p.0) fault
    → IsFaultOfOwn config (codes "load" ∷ words) fault
unfolding parts_of_access
load_fault config words =
    behind_word config (codes "load") words two_parts (λ p. HasFirst config p.0)
    (λ p. owns.Access (record { 0 = p.0 }) ops.Load (record { 0 = p.1 }))
    (λ P h. only_load words P (λ core word. h (core.0, word.0))) (λ p. refl) (λ p has. has)

pub store_fault : (config : Config) (words : List (List ℕ)) (fault : LineFault)
    → IsFaultOf (λ p. HasForm words (three_parts p)) (λ p. Writes words (three_parts p))
    (λ p. HasFirst config p.0) fault
    → IsFaultOfOwn config (codes "store" ∷ words) fault
unfolding parts_of_access
store_fault config words =
    behind_word config (codes "store") words three_parts (λ p. HasFirst config p.0)
    (λ p. owns.Access (record { 0 = p.0 }) (ops.Store p.2) (record { 0 = p.1 }))
    (λ P h. only_store words P (λ core word value. h (core.0, word.0, value))) (λ p. refl) (λ p has. has)

pub add_fault : (config : Config) (words : List (List ℕ)) (fault : LineFault)
    → IsFaultOf (λ p. HasForm words (three_parts p)) (λ p. Writes words (three_parts p))
    (λ p. HasFirst config p.0) fault
    → IsFaultOfOwn config (codes "add" ∷ words) fault
unfolding parts_of_access
add_fault config words =
    behind_word config (codes "add") words three_parts (λ p. HasFirst config p.0)
    (λ p. owns.Access (record { 0 = p.0 }) (ops.Add p.2) (record { 0 = p.1 }))
    (λ P h. only_add words P (λ core word delta. h (core.0, word.0, delta))) (λ p. refl) (λ p has. has)

-- the core, the word and the two values after `cas`
abbrev four_parts : ℕ × ℕ × ℕ × ℕ → List Part
four_parts p = num p.0 ∷ num p.1 ∷ num p.2 ∷ num p.3 ∷ []

cas_fault : (config : Config) (words : List (List ℕ)) (fault : LineFault)
    → IsFaultOf (λ p. HasForm words (four_parts p)) (λ p. Writes words (four_parts p))
    (λ p. HasFirst config p.0) fault
    → IsFaultOfOwn config (codes "cas" ∷ words) fault
unfolding parts_of_access
cas_fault config words =
    behind_word config (codes "cas") words four_parts (λ p. HasFirst config p.0)
    (λ p. owns.Access (record { 0 = p.0 }) (ops.Cas p.2 p.3) (record { 0 = p.1 }))
    (λ P h. only_cas words P (λ core word expect new. h (core.0, word.0, expect, new))) (λ p. refl) (λ p has. has)

-- nothing follows `cas`
pub cas_alone : (config : Config) → IsFaultOfOwn config (codes "cas" ∷ []) line_faults.NotACommand
unfolding IsFaultOf
cas_alone config = cas_fault config [] line_faults.NotACommand (λ p form. form)

-- the numbers after the core are at fault
pub cas_numbers : (config : Config) (core : List ℕ) (others : List (List ℕ)) (fault : LineFault)
    → IsFormFaultOf three_parts others fault → IsFaultOfOwn config (codes "cas" ∷ core ∷ others) fault
unfolding IsFaultOf
cas_numbers config core others line_faults.NotACommand h =
    cas_fault config (core ∷ others) line_faults.NotACommand (λ p form. h (p.1, p.2, p.3) form)
cas_numbers config core others line_faults.BadNumber h =
    cas_fault config (core ∷ others) line_faults.BadNumber
    (((0, h.0.0.0, h.0.0.1, h.0.0.2), h.0.1), λ p w. h.1 (p.1, p.2, p.3) w.2)
cas_numbers config core others line_faults.OutOfRange h = absurd (h.1 h.0.0 h.0.1 tt)
cas_numbers config core others other h = h

-- the core is no number
pub cas_number : (config : Config) (core : List ℕ) (others : List (List ℕ)) (a b d : ℕ)
    → Writes others (three_parts (a, b, d)) → ¬ IsNumber core
    → IsFaultOfOwn config (codes "cas" ∷ core ∷ others) line_faults.BadNumber
unfolding IsFaultOf
cas_number config core others a b d written none =
    cas_fault config (core ∷ others) line_faults.BadNumber
    (((0, a, b, d), HasForm-Writes others (three_parts (a, b, d)) written), λ p w. none w.0)

-- the machine lacks the core
pub cas_lacks : (config : Config) (core : List ℕ) (others : List (List ℕ)) (a b d n : ℕ)
    → Writes others (three_parts (a, b, d)) → IsNumber core → n ≡ digits_value 10 core → ¬ (n < config.cores)
    → (fault : LineFault) → fault ≡ line_faults.OutOfRange → IsFaultOfOwn config (codes "cas" ∷ core ∷ others) fault
cas_lacks config core others a b d n written number is none fault out =
    cas_fault config (core ∷ others) fault
    (lacks _ _ (λ p. HasFirst config p.0) (digits_value 10 core, a, b, d) (number, refl, written)
    (λ p w has. none (subst (λ m. m < config.cores) (sym (is ∙ w.1)) has)) fault out)

-- ---- a slice that is named after `next`

only_named : (word : List ℕ) (words : List (List ℕ)) (P : Option SliceId → Type 0)
    → ((n : ℕ) → P (Some (record { 0 = n }))) → (slice : Option SliceId)
    → HasForm (word ∷ words) (parts_of_slice slice) → P slice
only_named word words P h None form = absurd form
only_named word words P h (Some slice) form = h slice.0

-- some word is there, and what is wrong with it as a number is wrong with the line
pub next_fault : {W : Type 0} (config : Config) (text : W → List ℕ) (words : List W) → length words ≢ 0
    → (fault : LineFault)
    → IsFaultOf (λ n. HasForm (map text words) (one_part n)) (λ n. Writes (map text words) (one_part n))
    (λ n. n < config.slices) fault
    → IsFaultOfOwn config (codes "next" ∷ map text words) fault
next_fault config text [] some fault h = absurd (some refl)
next_fault config text (word ∷ words) some fault h =
    behind_word config (codes "next") (text word ∷ map text words) parts_of_slice (HasSlice config)
    (λ slice. owns.Next slice)
    (λ P k. only_next (text word ∷ map text words) P k) (λ slice. refl) (λ slice has. has) fault
    (fault_of_part (λ n. HasForm (text word ∷ map text words) (one_part n))
    (λ n. Writes (text word ∷ map text words) (one_part n)) (λ n. n < config.slices)
    (λ slice. HasForm (text word ∷ map text words) (parts_of_slice slice))
    (λ slice. Writes (text word ∷ map text words) (parts_of_slice slice)) (HasSlice config)
    (λ n. Some (record { 0 = n })) (only_named (text word) (map text words)) (λ n form. form)
    (λ n form. form) (λ n w. w)
    (λ n w. w) (λ n has. has) (λ slice w. HasForm-Writes (text word ∷ map text words) (parts_of_slice slice) w) fault h)

-- ---- words that nothing follows

pub undo_fault : (config : Config) (words : List (List ℕ)) (fault : LineFault) → IsFormFaultOf no_parts words fault
    → IsFaultOfOwn config (codes "undo" ∷ words) fault
undo_fault config words =
    behind_word config (codes "undo") words no_parts (λ nothing. Unit {0}) (λ nothing. owns.Undo)
    (λ P h. only_undo words P (h tt)) (λ nothing. refl) (λ nothing has. tt)

pub help_fault : (config : Config) (words : List (List ℕ)) (fault : LineFault) → IsFormFaultOf no_parts words fault
    → IsFaultOfOwn config (codes "help" ∷ words) fault
help_fault config words =
    behind_word config (codes "help") words no_parts (λ nothing. Unit {0}) (λ nothing. owns.Help)
    (λ P h. only_help words P (h tt)) (λ nothing. refl) (λ nothing has. tt)

pub quit_fault : (config : Config) (words : List (List ℕ)) (fault : LineFault) → IsFormFaultOf no_parts words fault
    → IsFaultOfOwn config (codes "quit" ∷ words) fault
quit_fault config words =
    behind_word config (codes "quit") words no_parts (λ nothing. Unit {0}) (λ nothing. owns.Quit)
    (λ P h. only_quit words P (h tt)) (λ nothing. refl) (λ nothing has. tt)

-- ---- one name follows `save`

-- nothing follows
pub save_alone : (config : Config) → IsFaultOfOwn config (codes "save" ∷ []) line_faults.NotACommand
unfolding IsFaultOf
save_alone config =
    λ own f. only_save [] (λ o. HasForm (codes "save" ∷ []) (parts_of o) → ⊥) (λ name form. form.1) own f f

-- more follows
pub save_more : (config : Config) (name : List ℕ) (more : List (List ℕ)) (fault : LineFault)
    → IsFormFaultOf no_parts more fault → IsFaultOfOwn config (codes "save" ∷ name ∷ more) fault
unfolding IsFaultOf
save_more config name more line_faults.NotACommand h =
    λ own f. only_save (name ∷ more) (λ o. HasForm (codes "save" ∷ name ∷ more) (parts_of o) → ⊥)
    (λ file form. h tt form.1.1) own f f
save_more config name [] line_faults.BadNumber h = absurd (h.1 tt tt)
save_more config name (next ∷ more) line_faults.BadNumber h = absurd h.0.1
save_more config name more line_faults.OutOfRange h = absurd (h.1 h.0.0 h.0.1 tt)
save_more config name more other h = h
