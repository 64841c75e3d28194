-- The directory serves a GetM of an owned line: the request goes on to the owner, and the core that asks is the owner
-- from then on.
use Rattle.std.proofs.Common.{◌≡◌, ℕ, ◌+◌, ◌<◌, ◌==◌, ◌&&◌, Bool, true, false, not, refl, ap, sym, ◌∙◌, subst, arith}
use Rattle.std.proofs.Common.{Some, if◌then◌else◌, true≢false}
use Rattle.std.proofs.lemmas.Bool.{and_from, eq-eqb, eqb-false, eqb-true, ne_eqb}
use Rattle.address_map.specs.declared.address.CoreId.{CoreId}
use Rattle.directory_table.specs.Law.{is_modified}
use Rattle.directory_table.specs.declared.state.DirState.TheVariants as dir_states
use Rattle.directory_table.specs.declared.row.DirSends.TheVariants as dir_sends
use Rattle.protocol_coherence.proofs.Answer.{line_at, told}
use Rattle.protocol_coherence.proofs.Each.{all_words, each_fit, each_fit-at, if_so, if_so-at, left, not-at, right}
use Rattle.protocol_coherence.proofs.Frame.{Owing, balance_kept, by_places}
use Rattle.protocol_coherence.specs.Coherent.{IsChained, IsCoherent, IsCounted, wanted_acks}
use Rattle.protocol_coherence.specs.Fit.{awaits, is_fit, is_fwd_get_m, is_fwd_get_s, is_get_m, owes, waits_to_write}
use Rattle.protocol_coherence.specs.Line.{Near, Part, Roles, fwd_get_m, near_of, no_request}
use Rattle.protocol_coherence.specs.LineSteps.{part_after_answer, change_if, part_after_forward}

asked : each_fit (λ n l. if_so (is_modified n.directory && n.owner)
    (λ _. is_fit (record n { owner = false }) (record l { forward = fwd_get_m }))) ≡ true
unfolding all_words
asked = refl

asks : each_fit (λ n l. if_so (is_modified n.directory && is_get_m l.request && not n.owner) (λ _.
    is_fit (record n { owner = true }) (record l { request = no_request })
    && waits_to_write (record l { request = no_request })
    && not (waits_to_write l) && not (is_fwd_get_s l.forward) && not (is_fwd_get_m l.forward))) ≡ true
unfolding all_words
asks = refl

neither : each_fit (λ n l. if_so (is_modified n.directory && not n.owner)
    (λ _. is_fit (record n { owner = false }) l && not (is_fwd_get_s l.forward))) ≡ true
unfolding all_words
neither = refl

-- The part of each core afterwards.
record After (near : Near) (o c x : ℕ) (p q : Part) : Type 0 where
  fit : is_fit near q.look ≡ true
  counted : IsCounted q
  owing : Owing p q
  balance : q.counted + wanted_acks p ≡ wanted_acks q + p.counted
  waits : waits_to_write p.look ≡ true → waits_to_write q.look ≡ true
  reader : is_fwd_get_s q.look.forward ≡ false
  new : x ≡ o → q.names ≡ c
  fwd_get_m : (x ≡ o → ⊥) → is_fwd_get_m q.look.forward ≡ true → is_fwd_get_m p.look.forward ≡ true
  names : (x ≡ o → ⊥) → q.names ≡ p.names

owner_after : (n : Near) (o c : ℕ) (owner : CoreId) (p : Part) (owns : Bool) → owns ≡ false → is_fit n p.look ≡ true
    → IsCounted p
    → (is_modified n.directory && n.owner) ≡ true → After (record n { owner = owns }) o c o p
    (part_after_forward (dir_sends.FwdGetM owner) c p)
unfolding owes waits_to_write awaits
owner_after n o c owner p owns e fit counted here = record {
  fit = subst (λ b. is_fit (record n { owner = b }) (record p.look { forward = fwd_get_m }) ≡ true) (sym e)
      (if_so-at _ _ (each_fit-at _ asked n p.look fit) here);
  counted = record { missing = counted.missing; none = counted.none };
  owing = record { owes = refl; due = refl };
  balance = omega arith;
  waits = λ h. h;
  reader = refl;
  new = λ same. refl;
  fwd_get_m = λ other. absurd (other refl);
  names = λ other. absurd (other refl);
}

asker_after : (n : Near) (o c : ℕ) (owner : CoreId) (p : Part) (owns : Bool) → owns ≡ true → (c ≡ o → ⊥)
    → is_fit n p.look ≡ true → IsCounted p
    → (is_modified n.directory && is_get_m p.look.request && not n.owner) ≡ true
    → After (record n { owner = owns }) o c c p (part_after_answer (dir_sends.FwdGetM owner) p)
unfolding owes awaits
asker_after n o c owner p owns e apart fit counted here =
    let t = if_so-at _ _ (each_fit-at _ asks n p.look fit) here in
    let t1 = left _ _ t in
    let t2 = left _ _ t1 in
    let t3 = left _ _ t2 in
    record {
      fit = subst (λ b. is_fit (record n { owner = b }) (record p.look { request = no_request }) ≡ true) (sym e)
          (left _ _ t3);
      counted = record { missing = counted.missing; none = counted.none };
      owing = record { owes = refl; due = refl };
      balance = omega arith;
      waits = λ h. right _ _ t3;
      reader = not-at _ (right _ _ t1);
      new = λ same. absurd (apart same);
      fwd_get_m = λ other h. h;
      names = λ other. refl;
    }

other_after : (n : Near) (o c x : ℕ) (p : Part) (owns : Bool) → owns ≡ false → (x ≡ o → ⊥) → is_fit n p.look ≡ true
    → IsCounted p
    → (is_modified n.directory && not n.owner) ≡ true → After (record n { owner = owns }) o c x p p
other_after n o c x p owns e not_o fit counted here =
    let t = if_so-at _ _ (each_fit-at _ neither n p.look fit) here in
    record {
      fit = subst (λ b. is_fit (record n { owner = b }) p.look ≡ true) (sym e) (left _ _ t);
      counted = counted;
      owing = record { owes = refl; due = refl };
      balance = omega arith;
      waits = λ h. h;
      reader = not-at _ (right _ _ t);
      new = λ same. absurd (not_o same);
      fwd_get_m = λ other h. h;
      names = λ other. refl;
    }

-- Who asks waited for the directory before, and for the data afterwards.
asker_waits : (n : Near) (p : Part) → is_fit n p.look ≡ true → (is_modified n.directory && is_get_m p.look.request
    && not n.owner) ≡ true
    → (waits_to_write (record p.look { request = no_request }) ≡ true) × (waits_to_write p.look ≡ false)
asker_waits n p fit here =
    let t = left _ _ (left _ _ (if_so-at _ _ (each_fit-at _ asks n p.look fit) here)) in
    (right _ _ (left _ _ t), not-at _ (right _ _ t))

-- The parts after the row.
abbrev pub passed : ℕ → CoreId → (ℕ → Part) → ℕ → Part
passed c owner part x = change_if (x == owner.0) (part_after_forward (dir_sends.FwdGetM owner) c)
    (told c (dir_sends.FwdGetM owner) part x)

-- Who forwards to whom, with one more.
abbrev pub by_also : (ℕ → ℕ) → ℕ → ℕ → ℕ → ℕ
by_also by c o y = if y == c then o else by y

pub forward_get_m : (cores : ℕ) (roles : Roles) (owner core : CoreId) (s : ℕ) (home : Bool) (part : ℕ → Part)
    → IsCoherent cores (line_at dir_states.M (Some owner) s home part) roles → core.0 < cores
    → is_get_m (part core.0).look.request ≡ true
    → (owner.0 ≡ core.0 → ⊥)
    → IsCoherent cores (line_at dir_states.M (Some core) s home (passed core.0 owner part))
    (record roles { by = by_also roles.by core.0 owner.0 })
forward_get_m cores roles owner core s home part coherent within wants apart =
    let apart' : (c ≡ o) → ⊥ = λ same. apart (sym same) in
    let not_owner : (c == o) ≡ false = ne_eqb c o apart' in
    let one : (x : ℕ) → x < cores → After (now x) o c x (part x) (q x) = λ x below.
    by_places (λ y q. After (now y) o c y (part y) q) part c o (part_after_answer (dir_sends.FwdGetM owner))
    (part_after_forward (dir_sends.FwdGetM owner) c) x apart
    (asker_after (old c) o c owner (part c) (c == c) (eq-eqb c c refl) apart' (coherent.fit c within)
    (coherent.counted c within)
    (and_from _ _ wants (ap not not_owner)))
    (owner_after (old o) o c owner (part o) (o == c) (ne_eqb o c apart) (coherent.fit o to) (coherent.counted o to)
    (eq-eqb o o refl))
    (λ not_c not_o. other_after (old x) o c x (part x) (x == c) (ne_eqb x c not_c) not_o (coherent.fit x below)
    (coherent.counted x below)
    (ap not (ne_eqb x o not_o))) in
    let waiting = asker_waits (old c) (part c) (coherent.fit c within) (and_from _ _ wants (ap not not_owner)) in
    let waits : waits_to_write (q c).look ≡ true =
    by_places (λ y p. y ≡ c → waits_to_write p.look ≡ true) part c o (part_after_answer (dir_sends.FwdGetM owner))
    (part_after_forward (dir_sends.FwdGetM owner) c) c apart
    (λ same. waiting.0) (λ same. absurd (apart same)) (λ not_c not_o same. absurd (not_c same)) refl in
    record {
      fit = λ x below. (one x below).fit;
      counted = λ x below. (one x below).counted;
      chained = λ x below. chain one waits waiting.1 x below (x == o) refl;
      balanced = balance_kept cores roles.keeper part q coherent.balanced (λ x below. (one x below).owing)
          (one roles.keeper coherent.roles_within.keeper).balance;
      entry = record { in_m = refl; owner_within = within; sharers_within = coherent.entry.sharers_within };
      roles_within = record {
        keeper = coherent.roles_within.keeper;
        server = coherent.roles_within.server;
        asker = coherent.roles_within.asker;
      };
    }
  where
    o : ℕ
    o = owner.0

    c : ℕ
    c = core.0

    to : owner.0 < cores
    to = coherent.entry.owner_within

    q : ℕ → Part
    q = passed core.0 owner part

    old : ℕ → Near
    old = near_of (line_at dir_states.M (Some owner) s home part) roles

    now : ℕ → Near
    now = near_of (line_at dir_states.M (Some core) s home (passed core.0 owner part))
        (record roles { by = by_also roles.by core.0 owner.0 })

    chain : ((x : ℕ) → x < cores → After (now x) o c x (part x) (q x)) → waits_to_write (q c).look ≡ true
        → waits_to_write (part c).look ≡ false
        → (x : ℕ) → x < cores → (b : Bool) → (x == o) ≡ b → IsChained cores roles.asker (by_also roles.by c o) q x
    chain one waits not_waiting x below true e =
        let a = one x below in
        let names = a.new (eqb-true x o e) in
        record {
          writer = λ h. subst (λ y. waits_to_write (q y).look ≡ true) (sym names) waits;
          within = λ h. subst (λ y. y < cores) (sym names) within;
          only_by = λ h. ap (by_also roles.by c o) names ∙ ap (λ b. if b then o else roles.by c) (eq-eqb c c refl)
              ∙ sym (eqb-true x o e);
          reader = λ h. absurd (true≢false (sym h ∙ a.reader));
        }
    chain one waits not_waiting x below false e =
        let a = one x below in
        let away = eqb-false x o e in
        let old = coherent.chained x below in
        let names = a.names away in
        record {
          writer = λ h.
              let was = a.fwd_get_m away h in
              subst (λ y. waits_to_write (q y).look ≡ true) (sym names)
              ((one (part x).names (old.within was)).waits (old.writer was));
          within = λ h. subst (λ y. y < cores) (sym names) (old.within (a.fwd_get_m away h));
          only_by = λ h.
              let was = a.fwd_get_m away h in
              let not_c : (part x).names ≡ c → ⊥ = λ same. true≢false
              (sym (old.writer was) ∙ ap (λ y. waits_to_write (part y).look) same ∙ not_waiting) in
              ap (by_also roles.by c o) names ∙ ap (λ b. if b then o else roles.by (part x).names)
              (ne_eqb (part x).names c not_c) ∙ old.only_by was;
          reader = λ h. absurd (true≢false (sym h ∙ a.reader));
        }
