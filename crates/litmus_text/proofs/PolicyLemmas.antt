-- Words that write a replacement policy.
use Rattle.std.proofs.Common.{◌≢◌, ℕ, List, [], ◌∷◌, arith, refl}
use Rattle.std.specs.Prelude.{codes}
use Rattle.std.proofs.lemmas.Grind.{common_steps}
use Rattle.address_map.specs.declared.config.PolicyKind.{PolicyKind}
use Rattle.address_map.specs.declared.config.PolicyKind.TheVariants as policy_kinds
use Rattle.litmus_text.specs.declared.policy.PolicyName.{PolicyName}
use Rattle.litmus_text.specs.declared.policy.PolicyName.TheVariants as policy_names
use Rattle.litmus_text.specs.ConfigLine.{name_of_policy, parts_of_policy}
use Rattle.litmus_text.specs.declared.fault.LineFault.{LineFault}
use Rattle.litmus_text.specs.declared.fault.LineFault.TheVariants as line_faults
use Rattle.litmus_text.specs.Form.{Writes, HasForm, IsFaultOf, IsFormFaultOf, no_parts, one_part}
use Rattle.litmus_text.proofs.FaultLemmas.{form_behind}
use Rattle.litmus_text.proofs.FormLemmas.{HasForm-Writes}

-- words that begin with the name of no policy have the form of none
pub no_policy : (name : List ℕ) (rest : List (List ℕ)) → ((policy : PolicyName) → name ≢ name_of_policy policy)
    → (kind : PolicyKind) → HasForm (name ∷ rest) (parts_of_policy kind) → ⊥
no_policy name rest other policy_kinds.Lru w = other policy_names.Lru w.0
no_policy name rest other policy_kinds.Fifo w = other policy_names.Fifo w.0
no_policy name rest other (policy_kinds.Random seed) w = other policy_names.Random w.0

-- and write none
pub no_policy_written : (name : List ℕ) (rest : List (List ℕ)) → ((policy : PolicyName) → name ≢ name_of_policy policy)
    → (kind : PolicyKind) → Writes (name ∷ rest) (parts_of_policy kind) → ⊥
no_policy_written name rest other kind w =
    no_policy name rest other kind (HasForm-Writes (name ∷ rest) (parts_of_policy kind) w)

-- no words have the form of none
form_of_nothing : (kind : PolicyKind) → HasForm [] (parts_of_policy kind) → ⊥
form_of_nothing policy_kinds.Lru w = w
form_of_nothing policy_kinds.Fifo w = w
form_of_nothing (policy_kinds.Random seed) w = w

-- so this is what is wrong with them
pub nothing_fault : IsFormFaultOf parts_of_policy [] line_faults.NotACommand
unfolding IsFaultOf
nothing_fault = form_of_nothing

pub unnamed_fault : (name : List ℕ) (rest : List (List ℕ)) → ((policy : PolicyName) → name ≢ name_of_policy policy)
    → IsFormFaultOf parts_of_policy (name ∷ rest) line_faults.NotACommand
unfolding IsFaultOf
unnamed_fault name rest other = no_policy name rest other

-- ---- what is wrong after a name is wrong with the policy

only_lru : (words : List (List ℕ)) (P : PolicyKind → Type 0) → P policy_kinds.Lru
    → (kind : PolicyKind) → HasForm (codes "lru" ∷ words) (parts_of_policy kind) → P kind
only_lru words P h kind form = grind (arith, common_steps)

pub lru_fault : (words : List (List ℕ)) (fault : LineFault) → IsFormFaultOf no_parts words fault
    → IsFormFaultOf parts_of_policy (codes "lru" ∷ words) fault
lru_fault words =
    form_behind (codes "lru") words no_parts parts_of_policy (λ p. policy_kinds.Lru) (λ P h. only_lru words P (h tt))
    (λ p. refl)

only_fifo : (words : List (List ℕ)) (P : PolicyKind → Type 0) → P policy_kinds.Fifo
    → (kind : PolicyKind) → HasForm (codes "fifo" ∷ words) (parts_of_policy kind) → P kind
only_fifo words P h kind form = grind (arith, common_steps)

pub fifo_fault : (words : List (List ℕ)) (fault : LineFault) → IsFormFaultOf no_parts words fault
    → IsFormFaultOf parts_of_policy (codes "fifo" ∷ words) fault
fifo_fault words =
    form_behind (codes "fifo") words no_parts parts_of_policy (λ p. policy_kinds.Fifo) (λ P h. only_fifo words P (h tt))
    (λ p. refl)

only_random : (words : List (List ℕ)) (P : PolicyKind → Type 0) → ((seed : ℕ) → P (policy_kinds.Random seed))
    → (kind : PolicyKind) → HasForm (codes "random" ∷ words) (parts_of_policy kind) → P kind
only_random words P h kind form = grind (arith, common_steps)

pub random_fault : (words : List (List ℕ)) (fault : LineFault) → IsFormFaultOf one_part words fault
    → IsFormFaultOf parts_of_policy (codes "random" ∷ words) fault
random_fault words =
    form_behind (codes "random") words one_part parts_of_policy (λ p. policy_kinds.Random p)
    (λ P h. only_random words P h)
    (λ p. refl)
