-- The frame of each step: what one core's part owes to the others, and how the facts of all cores follow.
use Rattle.std.proofs.Common.{◌≡◌, ℕ, ◌+◌, ◌<◌, ◌==◌, Bool, true, false, refl, sym, ◌∙◌, subst, arith, true≢false}
use Rattle.std.proofs.lemmas.Bool.{eqb-false, eqb-true}
use Rattle.protocol_coherence.proofs.Count.{count_below-none, count_below-same}
use Rattle.protocol_coherence.specs.Coherent.{IsBalanced, IsChained, IsCoherent, IsCounted, IsEntry, debts, wanted_acks}
use Rattle.protocol_coherence.specs.Fit.{is_fit, is_fwd_get_m, is_fwd_get_s, owes, waits_to_write}
use Rattle.protocol_coherence.specs.Line.{Line, Near, Part, Roles, near_of}
use Rattle.protocol_coherence.specs.LineSteps.{change_if}

-- What others see of a part stays: a core goes on waiting to write, and has no new forwarded request.
pub record Seen (p q : Part) : Type 0 where
  pub waits : waits_to_write p.look ≡ true → waits_to_write q.look ≡ true
  pub fwd_get_m : is_fwd_get_m q.look.forward ≡ true → is_fwd_get_m p.look.forward ≡ true
  pub fwd_get_s : is_fwd_get_s q.look.forward ≡ true → is_fwd_get_s p.look.forward ≡ true
  pub names : q.names ≡ p.names

-- A part owes what it owed.
pub record Owing (p q : Part) : Type 0 where
  pub owes : owes q.look ≡ owes p.look
  pub due : q.owes_to ≡ p.owes_to

-- A part fits afterwards, others see of it what they saw, and it awaits as many acknowledgements more than it has
-- counted.
pub record Kept (near : Near) (p q : Part) : Type 0 where
  pub fit : is_fit near q.look ≡ true
  pub counted : IsCounted q
  pub seen : Seen p q
  pub owing : Owing p q
  pub balance : q.counted + wanted_acks p ≡ wanted_acks q + p.counted

pub still : (near : Near) (p : Part) → is_fit near p.look ≡ true → IsCounted p → Kept near p p
still near p fit counted = record {
  fit = fit;
  counted = counted;
  seen = record { waits = λ h. h; fwd_get_m = λ h. h; fwd_get_s = λ h. h; names = refl };
  owing = record { owes = refl; due = refl };
  balance = omega arith;
}

-- A fact of every core after a change of one: it holds there after the change, and elsewhere as it was.
pub by_place : (P : ℕ → Part → Type 0) (part : ℕ → Part) (c : ℕ) (change : Part → Part) (x : ℕ)
    → P c (change (part c)) → ((x ≡ c → ⊥) → P x (part x)) → P x (change_if (x == c) change (part x))
by_place P part c change x here there = go (x == c) refl
  where
    go : (b : Bool) → (x == c) ≡ b → P x (change_if b change (part x))
    go true e = subst (λ y. P y (change (part y))) (sym (eqb-true x c e)) here
    go false e = there (eqb-false x c e)

-- A fact after a change under a test.
pub by_test : (P : Part → Type 0) (b : Bool) (change : Part → Part) (p : Part) → (b ≡ true → P (change p))
    → (b ≡ false → P p)
    → P (change_if b change p)
by_test P true change p changed same = changed refl
by_test P false change p changed same = same refl

-- The part that is changed.
pub at_place : (part : ℕ → Part) (c : ℕ) (change : Part → Part) → change_if (c == c) change (part c) ≡ change (part c)
at_place part c change = by_place (λ y q. y ≡ c → q ≡ change (part c)) part c change c (λ same. refl)
    (λ other. absurd (other refl)) refl

-- The same after a change of two.
pub by_places : (P : ℕ → Part → Type 0) (part : ℕ → Part) (c d : ℕ) (f g : Part → Part) (x : ℕ) → (d ≡ c → ⊥)
    → P c (f (part c)) → P d (g (part d)) → ((x ≡ c → ⊥) → (x ≡ d → ⊥) → P x (part x))
    → P x (change_if (x == d) g (change_if (x == c) f (part x)))
by_places P part c d f g x apart first second others =
    by_place P (λ y. change_if (y == c) f (part y)) d g x
    (by_place (λ y q. y ≡ d → P d (g q)) part c f d (λ same. absurd (apart (sym same))) (λ other same. second) refl)
    (λ away. by_place P part c f x first (λ other. others other away))

-- ---- all cores

pub chain_kept : (cores asker : ℕ) (by : ℕ → ℕ) (p q : ℕ → Part) → ((x : ℕ) → x < cores → Seen (p x) (q x))
    → ((x : ℕ) → x < cores → IsChained cores asker by p x) → (x : ℕ) → x < cores → IsChained cores asker by q x
chain_kept cores asker by p q seen chained x below =
    let s = seen x below in
    let old = chained x below in
    record {
      writer = λ h.
          let was = s.fwd_get_m h in
          subst (λ y. waits_to_write (q y).look ≡ true) (sym s.names)
          ((seen (p x).names (old.within was)).waits (old.writer was));
      within = λ h. subst (λ y. y < cores) (sym s.names) (old.within (s.fwd_get_m h));
      only_by = λ h. subst (λ y. by y ≡ x) (sym s.names) (old.only_by (s.fwd_get_m h));
      reader = λ h. s.names ∙ old.reader (s.fwd_get_s h);
    }

pub due_kept : (cores keeper : ℕ) (p q : ℕ → Part) → ((x : ℕ) → x < cores → Owing (p x) (q x))
    → ((x : ℕ) → x < cores → owes (p x).look ≡ true → (p x).owes_to ≡ keeper)
    → (x : ℕ) → x < cores → owes (q x).look ≡ true → (q x).owes_to ≡ keeper
due_kept cores keeper p q owing due x below h =
    let s = owing x below in s.due ∙ due x below (sym s.owes ∙ h)

pub debts_kept : (cores : ℕ) (p q : ℕ → Part) → ((x : ℕ) → x < cores → Owing (p x) (q x))
    → debts cores p ≡ debts cores q
debts_kept cores p q owing =
    count_below-same cores (λ x. owes (p x).look) (λ x. owes (q x).look) (λ x below. sym (owing x below).owes)

-- The acknowledgements stay in balance: each core owes what it owed, and the keeper awaits as many.
pub balance_kept : (cores keeper : ℕ) (p q : ℕ → Part) → IsBalanced cores keeper p
    → ((x : ℕ) → x < cores → Owing (p x) (q x))
    → (q keeper).counted + wanted_acks (p keeper) ≡ wanted_acks (q keeper) + (p keeper).counted →
    IsBalanced cores keeper q
balance_kept cores keeper p q balanced owing balance =
    let same = debts_kept cores p q owing in
    record { due = due_kept cores keeper p q owing balanced.due; sum = omega (arith, same, balance, balanced.sum) }

-- They are in balance where no core owes, and the keeper awaits none.
pub balance_none : (cores keeper : ℕ) (q : ℕ → Part) → ((x : ℕ) → x < cores → owes (q x).look ≡ false)
    → (q keeper).counted ≡ 0
    → wanted_acks (q keeper) ≡ 0 → IsBalanced cores keeper q
balance_none cores keeper q owing counted wants =
    let none : debts cores q ≡ 0 = count_below-none cores (λ x. owes (q x).look) owing in
    record { due = λ x below h. absurd (true≢false (sym h ∙ owing x below)); sum = omega (arith, none, counted, wants) }

-- Where each core keeps its facts, the line stays coherent, with the roles as they were.
pub lift : (cores : ℕ) (line next : Line) (roles : Roles) → IsCoherent cores line roles
    → IsEntry cores next.directory next.owner next.sharers
    → ((x : ℕ) → x < cores → Kept (near_of next roles x) (line.part x) (next.part x)) → IsCoherent cores next roles
lift cores line next roles coherent entry kept =
    record {
      fit = λ x below. (kept x below).fit;
      counted = λ x below. (kept x below).counted;
      chained = chain_kept cores roles.asker roles.by line.part next.part
          (λ x below. (kept x below).seen) coherent.chained;
      balanced = balance_kept cores roles.keeper line.part next.part coherent.balanced (λ x below. (kept x below).owing)
          (kept roles.keeper coherent.roles_within.keeper).balance;
      entry = entry;
      roles_within = coherent.roles_within;
    }
