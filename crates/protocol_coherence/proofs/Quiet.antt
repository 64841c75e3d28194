-- When no core owes an acknowledgement: while the keeper awaits none.
use Rattle.std.proofs.Common.{◌≡◌, ℕ, ◌<◌, ◌||◌, true, false, not, refl, ap, subst, arith, if◌then◌else◌}
use Rattle.std.proofs.lemmas.Bool.{eqb-true}
use Rattle.directory_table.specs.Law.{is_idle}
use Rattle.protocol_coherence.proofs.Count.{count_below-zero}
use Rattle.protocol_coherence.proofs.Each.{all_words, each_fit, each_fit-at, if_so, if_so-at, not-at}
use Rattle.protocol_coherence.specs.Coherent.{IsCoherent, debts, wanted_acks}
use Rattle.protocol_coherence.specs.Fit.{awaits, holder, is_open, owes}
use Rattle.protocol_coherence.specs.Line.{Line, Roles, near_of}

pub record Quiet (cores : ℕ) (line : Line) (roles : Roles) : Type 0 where
  pub owes : (x : ℕ) → x < cores → owes (line.part x).look ≡ false
  pub none : debts cores line.part ≡ 0
  pub keeper : awaits (line.part roles.keeper).look ≡ false

pub quiet : (cores : ℕ) (line : Line) (roles : Roles) → IsCoherent cores line roles
    → awaits (line.part roles.keeper).look ≡ false → Quiet cores line roles
quiet cores line roles coherent still =
    let keeper = line.part roles.keeper in
    let nothing : wanted_acks keeper ≡ 0 = ap (λ b. if b then keeper.wants else 0) still in
    let none : debts cores line.part ≡ 0 = omega (arith, coherent.balanced.sum, nothing) in
    record { owes = count_below-zero cores (λ x. owes (line.part x).look) none; none = none; keeper = still }

open_awaits : each_fit (λ n l. if_so (is_idle n.directory || is_open n.directory n.home) (λ _. not (awaits l))) ≡ true
unfolding all_words
open_awaits = refl

-- While no core has the line, or the home copy can be read, no core owes.
pub quiet_open : (cores : ℕ) (line : Line) (roles : Roles) → IsCoherent cores line roles
    → (is_idle line.directory || is_open line.directory line.home) ≡ true → Quiet cores line roles
quiet_open cores line roles coherent home =
    let fit = coherent.fit roles.keeper coherent.roles_within.keeper in
    quiet cores line roles coherent (not-at _ (if_so-at _ _ (each_fit-at _ open_awaits
    (near_of line roles roles.keeper) (line.part roles.keeper).look fit) home))

holder_keeper : each_fit (λ n l. if_so (holder l) (λ _. n.keeper)) ≡ true
unfolding all_words
holder_keeper = refl

-- A holder is the keeper.
pub keeper_holds : (cores : ℕ) (line : Line) (roles : Roles) (c : ℕ) → IsCoherent cores line roles → c < cores
    → holder (line.part c).look ≡ true → c ≡ roles.keeper
keeper_holds cores line roles c coherent within holds =
    eqb-true c roles.keeper (if_so-at _ _ (each_fit-at _ holder_keeper (near_of line roles c) (line.part c).look
    (coherent.fit c within)) holds)

-- While a holder awaits nothing, no core owes.
pub quiet_holder : (cores : ℕ) (line : Line) (roles : Roles) (c : ℕ) → IsCoherent cores line roles → c < cores
    → holder (line.part c).look ≡ true → awaits (line.part c).look ≡ false → Quiet cores line roles
quiet_holder cores line roles c coherent within holds still =
    quiet cores line roles coherent
    (subst (λ y. awaits (line.part y).look ≡ false) (keeper_holds cores line roles c coherent within holds) still)
