-- Words that write a channel.
use Rattle.std.proofs.Common.{◌≡◌, ◌≢◌, ℕ, List, [], ◌∷◌, Result, IsErrAnd, arith, refl, subst, sym}
use Rattle.std.proofs.lemmas.Result.{err_from_is_err_and}
use Rattle.std.specs.Prelude.{codes}
use Rattle.std.proofs.lemmas.Grind.{common_steps}
use Rattle.address_map.specs.declared.address.CoreId.{CoreId}
use Rattle.address_map.specs.declared.address.LineAddr.{LineAddr}
use Rattle.address_map.specs.declared.config.Config.{Config}
use Rattle.slice_queues.specs.declared.channel.Pick.{Pick}
use Rattle.slice_queues.specs.declared.channel.Pick.TheVariants as picks
use Rattle.litmus_text.specs.declared.channel.Class.{Class}
use Rattle.litmus_text.specs.declared.channel.Class.TheVariants as classes
use Rattle.litmus_text.specs.Class.{name_of_class}
use Rattle.litmus_text.specs.Command.{HasLineAndCore, HasPick, IsFaultOfPick, ReadsAsPick, parts_of_pick}
use Rattle.litmus_text.specs.declared.fault.LineFault.{LineFault}
use Rattle.litmus_text.specs.declared.fault.LineFault.TheVariants as line_faults
use Rattle.litmus_text.specs.Form.{Part, Writes, HasForm, IsFaultOf, key, one_part, two_parts, three_parts}
use Rattle.litmus_text.proofs.FaultLemmas.{fault_behind}
use Rattle.litmus_text.proofs.FormLemmas.{HasForm-Writes}

-- no words have the form of no channel
pub form_of_nothing : (pick : Pick) → HasForm [] (parts_of_pick pick) → ⊥
unfolding parts_of_pick
form_of_nothing (picks.Req line core) w = w
form_of_nothing (picks.Fwd line core) w = w
form_of_nothing (picks.Data line core) w = w
form_of_nothing (picks.Ack line to from) w = w
form_of_nothing (picks.Home line) w = w

-- and write none
pub nothing_written : (pick : Pick) → Writes [] (parts_of_pick pick) → ⊥
nothing_written pick w = form_of_nothing pick (HasForm-Writes [] (parts_of_pick pick) w)

-- words that begin with the name of no class have the form of no channel
pub no_channel : (name : List ℕ) (rest : List (List ℕ)) → ((class : Class) → name ≢ name_of_class class)
    → (pick : Pick) → HasForm (name ∷ rest) (parts_of_pick pick) → ⊥
unfolding parts_of_pick
no_channel name rest other (picks.Req line core) w = other classes.Req w.0
no_channel name rest other (picks.Fwd line core) w = other classes.Fwd w.0
no_channel name rest other (picks.Data line core) w = other classes.Data w.0
no_channel name rest other (picks.Ack line to from) w = other classes.Ack w.0
no_channel name rest other (picks.Home line) w = other classes.Home w.0

-- .. so this is what is wrong with them
pub nothing_fault : (config : Config) → IsFaultOfPick config [] line_faults.NotACommand
unfolding IsFaultOf
nothing_fault config = form_of_nothing

pub unnamed_fault : (config : Config) (name : List ℕ) (rest : List (List ℕ))
    → ((class : Class) → name ≢ name_of_class class)
    → IsFaultOfPick config (name ∷ rest) line_faults.NotACommand
unfolding IsFaultOf
unnamed_fault config name rest other = no_channel name rest other

-- a `?` returns what is wrong with the words
pub reads_none : {config : Config} {words : List (List ℕ)} (fault : LineFault) (r : Result Pick LineFault)
    → IsErrAnd r (λ x. x ≡ fault) → IsFaultOfPick config words fault → ReadsAsPick config words r
reads_none {config} {words} fault r is wrong =
    let p = err_from_is_err_and r is in
    rw p.1 (record { written = tt; in_range = tt; fault = subst (IsFaultOfPick config words) (sym p.2) wrong })

-- ---- what is wrong after a class is wrong with the channel

behind_class : {X : Type 0} (config : Config) (name : List ℕ) (words : List (List ℕ)) (behind : X → List Part)
    (Has : X → Type 0) (pick : X → Pick)
    → ((P : Pick → Type 0) → ((x : X) → P (pick x)) → (p : Pick) → HasForm (name ∷ words) (parts_of_pick p) → P p)
    → ((x : X) → parts_of_pick (pick x) ≡ key name ∷ behind x) → ((x : X) → HasPick config (pick x) → Has x)
    → (fault : LineFault) → IsFaultOf (λ x. HasForm words (behind x)) (λ x. Writes words (behind x)) Has fault
    → IsFaultOfPick config (name ∷ words) fault
behind_class config name words behind Has pick only is has =
    fault_behind name words behind Has parts_of_pick (λ p. Writes (name ∷ words) (parts_of_pick p))
    (HasPick config) pick
    only is (λ x w. w) (λ p w. w) has

-- the channels of each class
only_req : (words : List (List ℕ)) (P : Pick → Type 0) → ((line : LineAddr) (core : CoreId) → P (picks.Req line core))
    → (p : Pick) → HasForm (codes "req" ∷ words) (parts_of_pick p) → P p
unfolding parts_of_pick
only_req words P h p form = grind (arith, common_steps)

pub req_fault : (config : Config) (words : List (List ℕ)) (fault : LineFault)
    → IsFaultOf (λ p. HasForm words (two_parts p)) (λ p. Writes words (two_parts p)) (HasLineAndCore config) fault
    → IsFaultOfPick config (codes "req" ∷ words) fault
unfolding parts_of_pick HasPick
req_fault config words =
    behind_class config (codes "req") words two_parts (HasLineAndCore config)
    (λ p. picks.Req (record { 0 = p.0 }) (record { 0 = p.1 }))
    (λ P h. only_req words P (λ line core. h (line.0, core.0)))
    (λ p. refl) (λ p has. has)

only_fwd : (words : List (List ℕ)) (P : Pick → Type 0) → ((line : LineAddr) (core : CoreId) → P (picks.Fwd line core))
    → (p : Pick) → HasForm (codes "fwd" ∷ words) (parts_of_pick p) → P p
unfolding parts_of_pick
only_fwd words P h p form = grind (arith, common_steps)

pub fwd_fault : (config : Config) (words : List (List ℕ)) (fault : LineFault)
    → IsFaultOf (λ p. HasForm words (two_parts p)) (λ p. Writes words (two_parts p)) (HasLineAndCore config) fault
    → IsFaultOfPick config (codes "fwd" ∷ words) fault
unfolding parts_of_pick HasPick
fwd_fault config words =
    behind_class config (codes "fwd") words two_parts (HasLineAndCore config)
    (λ p. picks.Fwd (record { 0 = p.0 }) (record { 0 = p.1 }))
    (λ P h. only_fwd words P (λ line core. h (line.0, core.0)))
    (λ p. refl) (λ p has. has)

only_data : (words : List (List ℕ)) (P : Pick → Type 0) → ((line : LineAddr) (core : CoreId) → P (picks.Data line core))
    → (p : Pick) → HasForm (codes "data" ∷ words) (parts_of_pick p) → P p
unfolding parts_of_pick
only_data words P h p form = grind (arith, common_steps)

pub data_fault : (config : Config) (words : List (List ℕ)) (fault : LineFault)
    → IsFaultOf (λ p. HasForm words (two_parts p)) (λ p. Writes words (two_parts p)) (HasLineAndCore config) fault
    → IsFaultOfPick config (codes "data" ∷ words) fault
unfolding parts_of_pick HasPick
data_fault config words =
    behind_class config (codes "data") words two_parts (HasLineAndCore config)
    (λ p. picks.Data (record { 0 = p.0 }) (record { 0 = p.1 }))
    (λ P h. only_data words P (λ line core. h (line.0, core.0)))
    (λ p. refl) (λ p has. has)

only_ack : (words : List (List ℕ)) (P : Pick → Type 0)
    → ((line : LineAddr) (to from : CoreId) → P (picks.Ack line to from))
    → (p : Pick) → HasForm (codes "ack" ∷ words) (parts_of_pick p) → P p
unfolding parts_of_pick
only_ack words P h p form = grind (arith, common_steps)

pub ack_fault : (config : Config) (words : List (List ℕ)) (Has : ℕ × ℕ × ℕ → Type 0)
    → ((p : ℕ × ℕ × ℕ) → HasPick config (picks.Ack (record { 0 = p.0 }) (record { 0 = p.1 }) (record { 0 = p.2 }))
    → Has p)
    → (fault : LineFault)
    → IsFaultOf (λ p. HasForm words (three_parts p)) (λ p. Writes words (three_parts p)) Has fault
    → IsFaultOfPick config (codes "ack" ∷ words) fault
unfolding parts_of_pick
ack_fault config words Has =
    behind_class config (codes "ack") words three_parts Has
    (λ p. picks.Ack (record { 0 = p.0 }) (record { 0 = p.1 }) (record { 0 = p.2 }))
    (λ P h. only_ack words P (λ line to from. h (line.0, to.0, from.0))) (λ p. refl)

only_home : (words : List (List ℕ)) (P : Pick → Type 0) → ((line : LineAddr) → P (picks.Home line))
    → (p : Pick) → HasForm (codes "home" ∷ words) (parts_of_pick p) → P p
unfolding parts_of_pick
only_home words P h p form = grind (arith, common_steps)

pub home_fault : (config : Config) (words : List (List ℕ)) (Has : ℕ → Type 0)
    → ((p : ℕ) → HasPick config (picks.Home (record { 0 = p })) → Has p) → (fault : LineFault)
    → IsFaultOf (λ p. HasForm words (one_part p)) (λ p. Writes words (one_part p)) Has fault
    → IsFaultOfPick config (codes "home" ∷ words) fault
unfolding parts_of_pick
home_fault config words Has =
    behind_class config (codes "home") words one_part Has (λ p. picks.Home (record { 0 = p }))
    (λ P h. only_home words P (λ line. h line.0)) (λ p. refl)
