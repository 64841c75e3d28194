-- The directory serves a GetS of an owned line: the request goes on to the owner, who is the server from then on.
use Rattle.std.proofs.Common.{◌≡◌, ℕ, ◌+◌, ◌<◌, ◌≤◌, ◌==◌, ◌&&◌, ◌||◌, Bool, true, false, not, refl, ap, sym, ◌∙◌}
use Rattle.std.proofs.Common.{subst, arith, Some, None, true≢false, inl, inr}
use Rattle.std.proofs.Math.Bool.{or-true}
use Rattle.std.proofs.lemmas.Bool.{and_from, eq-eqb, eqb-true, ne_eqb, or_cases}
use Rattle.address_map.specs.declared.address.CoreId.{CoreId}
use Rattle.address_map.specs.CoreSet.{has, only, with}
use Rattle.directory_table.specs.Law.{is_modified}
use Rattle.directory_table.specs.declared.state.DirState.TheVariants as dir_states
use Rattle.directory_table.specs.declared.row.DirSends.TheVariants as dir_sends
use Rattle.protocol_coherence.proofs.Answer.{line_at, told}
use Rattle.protocol_coherence.proofs.Each.{all_words, each_fit, each_fit-at, if_so, if_so-at, implies-at, left, not-at}
use Rattle.protocol_coherence.proofs.Each.{right}
use Rattle.protocol_coherence.proofs.Frame.{Owing, balance_kept, by_places}
use Rattle.protocol_coherence.proofs.Sets.{in_only, in_with}
use Rattle.protocol_coherence.specs.Coherent.{IsChained, IsCoherent, IsCounted, wanted_acks}
use Rattle.protocol_coherence.specs.Fit.{◌implies◌, awaits, is_fit, is_fwd_get_m, is_fwd_get_s, is_get_s, owes}
use Rattle.protocol_coherence.specs.Fit.{waits_to_write}
use Rattle.protocol_coherence.specs.Line.{Look, Near, Part, Roles, fwd_get_s, near_of, no_request}
use Rattle.protocol_coherence.specs.LineSteps.{part_after_answer, change_if, part_after_forward}

-- The entry as a core sees it once the request was forwarded.
abbrev pub sent_on : Near → Bool → Bool → Bool → Near
sent_on n sharer server asker = record n {
  directory = dir_states.S_D;
  owner = false;
  sharer = sharer;
  server = server;
  asker = asker;
}

asked : each_fit (λ n l. if_so (is_modified n.directory && n.owner) (λ _.
    is_fit (sent_on n true true false) (record l { forward = fwd_get_s }))) ≡ true
unfolding all_words
asked = refl

asks : each_fit (λ n l. if_so (is_modified n.directory && is_get_s l.request && not n.owner) (λ _.
    is_fit (sent_on n true false true) (record l { request = no_request })
    && (waits_to_write l implies waits_to_write (record l { request = no_request })) && not (is_fwd_get_s l.forward)))
    ≡ true
unfolding all_words
asks = refl

neither : each_fit (λ n l. if_so (is_modified n.directory && not n.owner) (λ _.
    is_fit (sent_on n false false false) l && not (is_fwd_get_s l.forward))) ≡ true
unfolding all_words
neither = refl

-- The part of each core afterwards.
record After (near : Near) (c : ℕ) (p q : Part) : Type 0 where
  fit : is_fit near q.look ≡ true
  counted : IsCounted q
  owing : Owing p q
  balance : q.counted + wanted_acks p ≡ wanted_acks q + p.counted
  waits : waits_to_write p.look ≡ true → waits_to_write q.look ≡ true
  fwd_get_m : is_fwd_get_m q.look.forward ≡ true → is_fwd_get_m p.look.forward ≡ true
  names : is_fwd_get_m q.look.forward ≡ true → q.names ≡ p.names
  reader : is_fwd_get_s q.look.forward ≡ true → q.names ≡ c

fit_at : (n : Near) (l : Look) (sharer server asker shares serves asks : Bool) → shares ≡ sharer → serves ≡ server
    → asks ≡ asker
    → is_fit (sent_on n sharer server asker) l ≡ true → is_fit (sent_on n shares serves asks) l ≡ true
fit_at n l sharer server asker shares serves asks e f g fit = rw (e, f, g) fit

owner_after : (n : Near) (c : ℕ) (owner : CoreId) (p : Part) (sharer server asker : Bool) → sharer ≡ true
    → server ≡ true → asker ≡ false
    → is_fit n p.look ≡ true → IsCounted p → (is_modified n.directory && n.owner) ≡ true
    → After (sent_on n sharer server asker) c p (part_after_forward (dir_sends.FwdGetS owner) c p)
unfolding owes waits_to_write awaits
owner_after n c owner p sharer server asker e f g fit counted here = record {
  fit = fit_at n (record p.look { forward = fwd_get_s }) true true false sharer server asker e f g
      (if_so-at _ _ (each_fit-at _ asked n p.look fit) here);
  counted = record { missing = counted.missing; none = counted.none };
  owing = record { owes = refl; due = refl };
  balance = omega arith;
  waits = λ h. h;
  fwd_get_m = λ h. absurd (true≢false (sym h));
  names = λ h. absurd (true≢false (sym h));
  reader = λ h. refl;
}

asker_after : (n : Near) (c : ℕ) (owner : CoreId) (p : Part) (sharer server asker : Bool) → sharer ≡ true
    → server ≡ false → asker ≡ true
    → is_fit n p.look ≡ true → IsCounted p → (is_modified n.directory && is_get_s p.look.request && not n.owner) ≡ true
    → After (sent_on n sharer server asker) c p (part_after_answer (dir_sends.FwdGetS owner) p)
unfolding owes awaits
asker_after n c owner p sharer server asker e f g fit counted here =
    let t = if_so-at _ _ (each_fit-at _ asks n p.look fit) here in
    let t1 = left _ _ t in
    record {
      fit = fit_at n (record p.look { request = no_request }) true false true sharer server asker e f g (left _ _ t1);
      counted = record { missing = counted.missing; none = counted.none };
      owing = record { owes = refl; due = refl };
      balance = omega arith;
      waits = implies-at _ _ (right _ _ t1);
      fwd_get_m = λ h. h;
      names = λ h. refl;
      reader = λ h. absurd (true≢false (sym h ∙ not-at _ (right _ _ t)));
    }

other_after : (n : Near) (c : ℕ) (p : Part) (sharer server asker : Bool) → sharer ≡ false → server ≡ false
    → asker ≡ false
    → is_fit n p.look ≡ true → IsCounted p → (is_modified n.directory && not n.owner) ≡ true
    → After (sent_on n sharer server asker) c p p
other_after n c p sharer server asker e f g fit counted here =
    let t = if_so-at _ _ (each_fit-at _ neither n p.look fit) here in
    record {
      fit = fit_at n p.look false false false sharer server asker e f g (left _ _ t);
      counted = counted;
      owing = record { owes = refl; due = refl };
      balance = omega arith;
      waits = λ h. h;
      fwd_get_m = λ h. h;
      names = λ h. refl;
      reader = λ h. absurd (true≢false (sym h ∙ not-at _ (right _ _ t)));
    }

-- The parts after the row.
abbrev pub passed : ℕ → CoreId → (ℕ → Part) → ℕ → Part
passed c owner part x = change_if (x == owner.0) (part_after_forward (dir_sends.FwdGetS owner) c)
    (told c (dir_sends.FwdGetS owner) part x)

-- The two ends of the forwarded request are the sharers.
two : (o c x : ℕ) → o < 64 → c < 64 → has (with (only o) c) x ≡ (x == o || x == c)
two o c x owner asker = in_with (only o) c x asker ∙ ap (λ b. b || x == c) (in_only o x owner)

pub forward_get_s : (cores : ℕ) (roles : Roles) (owner : CoreId) (s : ℕ) (home : Bool) (part : ℕ → Part) (c : ℕ)
    → cores ≤ 64
    → IsCoherent cores (line_at dir_states.M (Some owner) s home part) roles → c < cores
    → is_get_s (part c).look.request ≡ true
    → (owner.0 ≡ c → ⊥)
    → IsCoherent cores (line_at dir_states.S_D None (with (only owner.0) c) home (passed c owner part))
    (record roles { server = owner.0; asker = c })
forward_get_s cores roles owner s home part c most coherent within wants apart =
    let o = owner.0 in
    let to : o < cores = coherent.entry.owner_within in
    let small : c < 64 = omega arith in
    let low : o < 64 = omega arith in
    let old = near_of (line_at dir_states.M (Some owner) s home part) roles in
    let now = near_of (line_at dir_states.S_D None (with (only o) c) home (passed c owner part))
    (record roles { server = o; asker = c }) in
    let apart' : (c ≡ o) → ⊥ = λ same. apart (sym same) in
    let not_owner : (c == o) ≡ false = ne_eqb c o apart' in
    let one : (x : ℕ) → x < cores → After (now x) c (part x) (passed c owner part x) = λ x below.
    by_places (λ y q. After (now y) c (part y) q) part c o (part_after_answer (dir_sends.FwdGetS owner))
    (part_after_forward (dir_sends.FwdGetS owner) c) x apart
    (asker_after (old c) c owner (part c) (has (with (only o) c) c) (c == o) (c == c)
    (two o c c low small ∙ ap (λ b. c == o || b) (eq-eqb c c refl) ∙ or-true (c == o)) not_owner (eq-eqb c c refl)
    (coherent.fit c within) (coherent.counted c within) (and_from _ _ wants (ap not not_owner)))
    (owner_after (old o) c owner (part o) (has (with (only o) c) o) (o == o) (o == c)
    (two o c o low small ∙ ap (λ b. b || o == c) (eq-eqb o o refl)) (eq-eqb o o refl) (ne_eqb o c apart)
    (coherent.fit o to) (coherent.counted o to) (eq-eqb o o refl))
    (λ not_c not_o. other_after (old x) c (part x) (has (with (only o) c) x) (x == o) (x == c)
    (two o c x low small ∙ ap (λ b. b || x == c) (ne_eqb x o not_o) ∙ ne_eqb x c not_c) (ne_eqb x o not_o)
    (ne_eqb x c not_c)
    (coherent.fit x below) (coherent.counted x below) (ap not (ne_eqb x o not_o))) in
    record {
      fit = λ x below. (one x below).fit;
      counted = λ x below. (one x below).counted;
      chained = λ x below. chain one x below;
      balanced = balance_kept cores roles.keeper part (passed c owner part) coherent.balanced
          (λ x below. (one x below).owing)
          (one roles.keeper coherent.roles_within.keeper).balance;
      entry = record {
        in_m = refl;
        owner_within = tt;
        sharers_within = λ x below h. elim (or_cases (x == o) (x == c) (sym (two o c x low small) ∙ h)) [
          | inl is ↦ subst (λ y. y < cores) (sym (eqb-true x o is)) to
          | inr is ↦ subst (λ y. y < cores) (sym (eqb-true x c is)) within
        ];
      };
      roles_within = record { keeper = coherent.roles_within.keeper; server = to; asker = within };
    }
  where
    chain : ((x : ℕ) → x < cores → After (near_of (line_at dir_states.S_D None (with (only owner.0) c) home
        (passed c owner part)) (record roles { server = owner.0; asker = c }) x) c (part x) (passed c owner part x))
        → (x : ℕ) → x < cores → IsChained cores c roles.by (passed c owner part) x
    chain one x below =
        let a = one x below in
        let old = coherent.chained x below in
        record {
          writer = λ h.
              let was = a.fwd_get_m h in
              subst (λ y. waits_to_write (passed c owner part y).look ≡ true) (sym (a.names h))
              ((one (part x).names (old.within was)).waits (old.writer was));
          within = λ h. subst (λ y. y < cores) (sym (a.names h)) (old.within (a.fwd_get_m h));
          only_by = λ h. subst (λ y. roles.by y ≡ x) (sym (a.names h)) (old.only_by (a.fwd_get_m h));
          reader = a.reader;
        }
