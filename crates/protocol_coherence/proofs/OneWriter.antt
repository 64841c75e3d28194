-- Where one core may write the line, no other core has it or gets it.
use Rattle.std.proofs.Common.{◌≡◌, ℕ, ◌<◌, ◌&&◌, true, false, not, refl, ap, sym, ◌∙◌, true≢false, inl, inr}
use Rattle.std.proofs.lemmas.Bool.{and_from, cases_eq, ne_eqb}
use Rattle.cache_table.specs.CopyState.{is_readable, is_writer}
use Rattle.protocol_coherence.proofs.Each.{all_words, each_fit, each_fit-at, if_so, if_so-at, left, not-at, right}
use Rattle.protocol_coherence.proofs.Quiet.{Quiet, keeper_holds, quiet_holder}
use Rattle.protocol_coherence.specs.Coherent.{IsCoherent}
use Rattle.protocol_coherence.specs.Fit.{awaits, comes, holder, is_open, owes}
use Rattle.protocol_coherence.specs.Line.{Line, Roles, near_of}
use Rattle.protocol_coherence.specs.Promise.{HasOneWriter}

writer_holds : each_fit (λ n l. if_so (is_writer l.state) (λ _. holder l && not (awaits l)
    && not (is_open n.directory n.home))) ≡ true
unfolding all_words
writer_holds = refl

nobody_comes : each_fit (λ n l. if_so (not n.keeper && not (owes l) && not (is_open n.directory n.home)) (λ _.
    not (comes l) && not (is_readable l.state) && not (holder l))) ≡ true
unfolding all_words
nobody_comes = refl

-- What a writer knows: it is the keeper, no core owes, the home copy isn't read, and no other core has the line or gets
-- it.
pub record Alone (cores : ℕ) (line : Line) (roles : Roles) (c : ℕ) : Type 0 where
  pub keeper : c ≡ roles.keeper
  pub quiet : Quiet cores line roles
  pub closed : is_open line.directory line.home ≡ false
  pub comes : (d : ℕ) → d < cores → (d ≡ c → ⊥) → comes (line.part d).look ≡ false
  pub reads : (d : ℕ) → d < cores → (d ≡ c → ⊥) → is_readable (line.part d).look.state ≡ false
  pub holds : (d : ℕ) → d < cores → (d ≡ c → ⊥) → holder (line.part d).look ≡ false

pub alone : (cores : ℕ) (line : Line) (roles : Roles) (c : ℕ) → IsCoherent cores line roles → c < cores
    → is_writer (line.part c).look.state ≡ true → Alone cores line roles c
alone cores line roles c coherent within writes =
    let e = if_so-at _ _ (each_fit-at _ writer_holds (near_of line roles c) (line.part c).look (coherent.fit c within))
    writes in
    let e1 = left _ _ e in
    let holds = left _ _ e1 in
    let quiet = quiet_holder cores line roles c coherent within holds (not-at _ (right _ _ e1)) in
    let keeper = keeper_holds cores line roles c coherent within holds in
    let closed = not-at _ (right _ _ e) in
    let other = λ (d : ℕ) (below : d < cores) (away : d ≡ c → ⊥).
    if_so-at _ _ (each_fit-at _ nobody_comes (near_of line roles d) (line.part d).look (coherent.fit d below))
    (and_from _ _ (and_from _ _ (ap not (ne_eqb d roles.keeper (λ same. away (same ∙ sym keeper))))
    (ap not (quiet.owes d below))) (ap not closed)) in
    record {
      keeper = keeper;
      quiet = quiet;
      closed = closed;
      comes = λ d below away. not-at _ (left _ _ (left _ _ (other d below away)));
      reads = λ d below away. not-at _ (right _ _ (left _ _ (other d below away)));
      holds = λ d below away. not-at _ (right _ _ (other d below away));
    }

pub one_writer : (cores : ℕ) (line : Line) (roles : Roles) → IsCoherent cores line roles → HasOneWriter cores line
one_writer cores line roles coherent c d within below writes reads =
    let alone = alone cores line roles c coherent within writes in
    elim (cases_eq d c) [
      | inl same ↦ sym same
      | inr away ↦ absurd (true≢false (sym reads ∙ alone.reads d below away))
    ]
