-- Words that write an access.
use Rattle.std.proofs.Common.{◌≡◌, ◌≢◌, ℕ, List, [], ◌∷◌, None, Some, Result, IfErr, arith, map, refl, rules}
use Rattle.std.specs.Prelude.{codes}
use Rattle.std.proofs.lemmas.Grind.{common_steps}
use Rattle.std.proofs.lemmas.Result.{IfErr-weaker}
use Rattle.address_map.specs.declared.request.Op.{Op}
use Rattle.address_map.specs.declared.request.Op.TheVariants as ops
use Rattle.litmus_text.specs.declared.parse.Access.{Access}
use Rattle.litmus_text.specs.declared.parse.Access.TheVariants as accesses
use Rattle.litmus_text.specs.declared.parse.TheConstants.{ACCESSES}
use Rattle.litmus_text.specs.Access.{name_of_access}
use Rattle.litmus_text.specs.Table.{value_named}
use Rattle.litmus_text.specs.Command.{parts_of_access, parts_of_op}
use Rattle.litmus_text.specs.declared.fault.LineFault.{LineFault}
use Rattle.litmus_text.specs.declared.fault.LineFault.TheVariants as line_faults
use Rattle.litmus_text.specs.Form.{Writes, HasForm, IsFaultOf, IsFormFaultOf, one_part, two_parts, three_parts}
use Rattle.litmus_text.proofs.FaultLemmas.{form_behind, form_refuses}
use Rattle.litmus_text.proofs.FormLemmas.{HasForm-Writes}
use Rattle.litmus_text.proofs.TableLemmas.{Each, named, unnamed}

-- the table of accesses, by their names
abbrev names : List (List ℕ × Access)
names = map (λ entry. (entry.0.now, entry.1)) ACCESSES

-- it has each
no_entry : (name : List ℕ) → Each (λ entry. name ≢ entry.0) names → (access : Access) → name ≢ name_of_access access
no_entry name other accesses.Load = other.0
no_entry name other accesses.Store = other.1.0
no_entry name other accesses.Add = other.1.1.0
no_entry name other accesses.Cas = other.1.1.1.0

pub named_access : (name : List ℕ) (access : Access) → Some access ≡ value_named names name
    → name ≡ name_of_access access
named_access name access found =
    named (λ name access. name ≡ name_of_access access) names name (Some access) found (search rules)

pub unnamed_access : (name : List ℕ) → None ≡ value_named names name → (access : Access) → name ≢ name_of_access access
unnamed_access name missing = unnamed _ names name None missing (no_entry name)

-- no words have the form of no access
pub form_of_nothing : (op : Op) (word : ℕ) → HasForm [] (parts_of_op op word) → ⊥
unfolding parts_of_op
form_of_nothing ops.Load word w = w
form_of_nothing (ops.Store value) word w = w
form_of_nothing (ops.Add delta) word w = w
form_of_nothing (ops.Cas expect new) word w = w

-- and write none
pub nothing_written : (op : Op) (word : ℕ) → Writes [] (parts_of_op op word) → ⊥
nothing_written op word w = form_of_nothing op word (HasForm-Writes [] (parts_of_op op word) w)

-- words that begin with the name of no access have the form of none
pub no_access : (name : List ℕ) (rest : List (List ℕ)) → ((access : Access) → name ≢ name_of_access access)
    → (op : Op) (word : ℕ) → HasForm (name ∷ rest) (parts_of_op op word) → ⊥
unfolding parts_of_op
no_access name rest other ops.Load word w = other accesses.Load w.0
no_access name rest other (ops.Store value) word w = other accesses.Store w.0
no_access name rest other (ops.Add delta) word w = other accesses.Add w.0
no_access name rest other (ops.Cas expect new) word w = other accesses.Cas w.0

-- and write none
pub no_access_written : (name : List ℕ) (rest : List (List ℕ)) → ((access : Access) → name ≢ name_of_access access)
    → (op : Op) (word : ℕ) → Writes (name ∷ rest) (parts_of_op op word) → ⊥
no_access_written name rest other op word w =
    no_access name rest other op word (HasForm-Writes (name ∷ rest) (parts_of_op op word) w)

-- .. so this is what is wrong with them
pub nothing_fault : IsFormFaultOf parts_of_access [] line_faults.NotACommand
unfolding IsFaultOf
nothing_fault = λ access. form_of_nothing access.0 access.1

pub unnamed_fault : (name : List ℕ) (rest : List (List ℕ)) → ((access : Access) → name ≢ name_of_access access)
    → IsFormFaultOf parts_of_access (name ∷ rest) line_faults.NotACommand
unfolding IsFaultOf
unnamed_fault name rest other = λ access. no_access name rest other access.0 access.1

-- words with a fault write none
pub refused_access : {X T : Type 0} (text : X → List ℕ) (words : List X) (r : Result T LineFault)
    → IfErr r (IsFormFaultOf parts_of_access (map text words))
    → IfErr r (λ fault. (op : Op) (word : ℕ) → Writes (map text words) (parts_of_op op word) → ⊥)
refused_access text words r =
    IfErr-weaker r _ _ (λ fault wrong op word. form_refuses parts_of_access (map text words) fault wrong (op, word))

-- ---- what is wrong after a name is wrong with the access

only_load : (words : List (List ℕ)) (P : Op × ℕ → Type 0) → ((word : ℕ) → P (ops.Load, word))
    → (op : Op) (word : ℕ) → HasForm (codes "load" ∷ words) (parts_of_op op word) → P (op, word)
unfolding parts_of_op
only_load words P h op word form = grind (arith, common_steps)

pub load_fault : (words : List (List ℕ)) (fault : LineFault) → IsFormFaultOf one_part words fault
    → IsFormFaultOf parts_of_access (codes "load" ∷ words) fault
unfolding parts_of_op
load_fault words =
    form_behind (codes "load") words one_part parts_of_access (λ p. (ops.Load, p))
    (λ P h access. only_load words P (λ word. h word) access.0 access.1) (λ p. refl)

only_store : (words : List (List ℕ)) (P : Op × ℕ → Type 0) → ((value word : ℕ) → P (ops.Store value, word))
    → (op : Op) (word : ℕ) → HasForm (codes "store" ∷ words) (parts_of_op op word) → P (op, word)
unfolding parts_of_op
only_store words P h op word form = grind (arith, common_steps)

pub store_fault : (words : List (List ℕ)) (fault : LineFault) → IsFormFaultOf two_parts words fault
    → IsFormFaultOf parts_of_access (codes "store" ∷ words) fault
unfolding parts_of_op
store_fault words =
    form_behind (codes "store") words two_parts parts_of_access (λ p. (ops.Store p.1, p.0))
    (λ P h access. only_store words P (λ value word. h (word, value)) access.0 access.1) (λ p. refl)

only_add : (words : List (List ℕ)) (P : Op × ℕ → Type 0) → ((delta word : ℕ) → P (ops.Add delta, word))
    → (op : Op) (word : ℕ) → HasForm (codes "add" ∷ words) (parts_of_op op word) → P (op, word)
unfolding parts_of_op
only_add words P h op word form = grind (arith, common_steps)

pub add_fault : (words : List (List ℕ)) (fault : LineFault) → IsFormFaultOf two_parts words fault
    → IsFormFaultOf parts_of_access (codes "add" ∷ words) fault
unfolding parts_of_op
add_fault words =
    form_behind (codes "add") words two_parts parts_of_access (λ p. (ops.Add p.1, p.0))
    (λ P h access. only_add words P (λ delta word. h (word, delta)) access.0 access.1) (λ p. refl)

only_cas : (words : List (List ℕ)) (P : Op × ℕ → Type 0) → ((expect new word : ℕ) → P (ops.Cas expect new, word))
    → (op : Op) (word : ℕ) → HasForm (codes "cas" ∷ words) (parts_of_op op word) → P (op, word)
unfolding parts_of_op
only_cas words P h op word form = grind (arith, common_steps)

pub cas_fault : (words : List (List ℕ)) (fault : LineFault) → IsFormFaultOf three_parts words fault
    → IsFormFaultOf parts_of_access (codes "cas" ∷ words) fault
unfolding parts_of_op
cas_fault words =
    form_behind (codes "cas") words three_parts parts_of_access (λ p. (ops.Cas p.1 p.2, p.0))
    (λ P h access. only_cas words P (λ expect new word. h (word, expect, new)) access.0 access.1) (λ p. refl)
