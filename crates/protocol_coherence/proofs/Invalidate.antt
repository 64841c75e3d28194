-- The directory serves a GetM of a shared line: each other sharer is sent an Inv, and the writer learns how many.
use Rattle.std.proofs.Common.{◌≡◌, ℕ, ◌<◌, ◌≤◌, ◌==◌, ◌&&◌, Bool, true, false, not, refl, ap, sym, ◌∙◌, arith, Some}
use Rattle.std.proofs.Common.{None, if◌then◌else◌, true≢false}
use Rattle.std.proofs.Math.Bool.{and-false, and-true}
use Rattle.std.proofs.lemmas.Bool.{and_from, eq-eqb, ne_eqb}
use Rattle.address_map.specs.declared.address.CoreId.{CoreId}
use Rattle.address_map.specs.CoreSet.{count_of, has, without}
use Rattle.directory_table.specs.Law.{is_shared}
use Rattle.directory_table.specs.declared.state.DirState.TheVariants as dir_states
use Rattle.directory_table.specs.declared.row.DirSends.TheVariants as dir_sends
use Rattle.protocol_coherence.proofs.Answer.{line_at, read, told}
use Rattle.protocol_coherence.proofs.Count.{count_below-same}
use Rattle.protocol_coherence.proofs.Each.{all_words, each_fit, each_fit-at, if_so, if_so-at, left, not-at, right}
use Rattle.protocol_coherence.proofs.Frame.{Seen, at_place, by_place, by_test, chain_kept}
use Rattle.protocol_coherence.proofs.Quiet.{quiet_open}
use Rattle.protocol_coherence.proofs.Seen.{seen_alike, seen_from}
use Rattle.protocol_coherence.proofs.Sets.{in_none, in_without, others_count}
use Rattle.protocol_coherence.specs.Coherent.{IsCoherent, IsCounted, debts, wanted_acks}
use Rattle.protocol_coherence.specs.Fit.{awaits, is_counting, is_fit, is_get_m, is_open, owes, waits_to_write}
use Rattle.protocol_coherence.specs.Line.{Look, Near, Part, Roles, near_of}
use Rattle.protocol_coherence.specs.LineSteps.{part_after_answer, change_if, invalidated_by}

-- The entry as a core sees it once one core is the owner and none a sharer.
abbrev pub owned : Near → Bool → Bool → Bool → Near
owned n owner sharer keeper = record n { directory = dir_states.M; owner = owner; sharer = sharer; keeper = keeper }

-- The look with an Inv.
abbrev pub invalidated : Look → Look
invalidated l = record l { inv = true }

writes : each_fit (λ n l. if_so (is_shared n.directory && is_get_m l.request && not (owes l)) (λ _.
    is_fit (owned n true false true) (read l) && seen_alike l (read l) && not (owes (read l)) && awaits (read l)
    && not (awaits l)
    && not (is_counting l.state))) ≡ true
unfolding all_words seen_alike
writes = refl

shares : each_fit (λ n l. if_so (is_shared n.directory && n.sharer && not (owes l)) (λ _.
    is_fit (owned n false false false) (invalidated l))) ≡ true
unfolding all_words
shares = refl

shares_not : each_fit (λ n l. if_so (is_shared n.directory && not n.sharer && not (owes l)) (λ _.
    is_fit (owned n false false false) l)) ≡ true
unfolding all_words
shares_not = refl

-- The part of each core afterwards: it owes exactly where it was another sharer.
record After (near : Near) (c : ℕ) (debt : Bool) (p q : Part) : Type 0 where
  fit : is_fit near q.look ≡ true
  counted : IsCounted q
  seen : Seen p q
  due : owes q.look ≡ true → q.owes_to ≡ c
  owing : owes q.look ≡ debt

writer_after : (n : Near) (c acks set : ℕ) (p : Part) (owner sharer keeper debt : Bool) → owner ≡ true → sharer ≡ false
    → keeper ≡ true → debt ≡ false
    → is_fit n p.look ≡ true → IsCounted p → (is_shared n.directory && is_get_m p.look.request && not (owes p.look))
    ≡ true
    → After (owned n owner sharer keeper) c debt p (part_after_answer (dir_sends.DataAndInv acks set) p)
writer_after n c acks set p owner sharer keeper debt owns not_sharer keeps no_debt fit counted here =
    let e = if_so-at _ _ (each_fit-at _ writes n p.look fit) here in
    let e1 = left _ _ e in
    let e2 = left _ _ e1 in
    let e3 = left _ _ e2 in
    let e4 = left _ _ e3 in
    let q = part_after_answer (dir_sends.DataAndInv acks set) p in
    let fit' : is_fit (owned n owner sharer keeper) q.look ≡ true = rw (owns, not_sharer, keeps) (left _ _ e4) in
    let settled : owes q.look ≡ false = not-at _ (right _ _ e3) in
    record {
      fit = fit';
      counted = record {
        missing = λ h. absurd (true≢false (sym h ∙ not-at _ (right _ _ e)));
        none = λ h. absurd (true≢false (sym (right _ _ e2) ∙ h));
      };
      seen = seen_from p q (right _ _ e4) refl;
      due = λ h. absurd (true≢false (sym h ∙ settled));
      owing = settled ∙ sym no_debt;
    }

sharer_after : (n : Near) (c : ℕ) (p : Part) (owner sharer keeper debt : Bool) → owner ≡ false → sharer ≡ false
    → keeper ≡ false → debt ≡ true
    → is_fit n p.look ≡ true → IsCounted p → (is_shared n.directory && n.sharer && not (owes p.look)) ≡ true
    → After (owned n owner sharer keeper) c debt p (invalidated_by c p)
unfolding owes waits_to_write awaits
sharer_after n c p owner sharer keeper debt owns not_sharer keeps is_debt fit counted here =
    let q = invalidated_by c p in
    let there = if_so-at _ _ (each_fit-at _ shares n p.look fit) here in
    let fit' : is_fit (owned n owner sharer keeper) q.look ≡ true = rw (owns, not_sharer, keeps) there in
    record {
      fit = fit';
      counted = record { missing = counted.missing; none = counted.none };
      seen = record { waits = λ h. h; fwd_get_m = λ h. h; fwd_get_s = λ h. h; names = refl };
      due = λ h. refl;
      owing = sym is_debt;
    }

other_after : (n : Near) (c : ℕ) (p : Part) (owner sharer keeper debt : Bool) → owner ≡ false → sharer ≡ false
    → keeper ≡ false → debt ≡ false
    → is_fit n p.look ≡ true → IsCounted p → owes p.look ≡ false
    → (is_shared n.directory && not n.sharer && not (owes p.look)) ≡ true
    → After (owned n owner sharer keeper) c debt p p
other_after n c p owner sharer keeper debt owns not_sharer keeps no_debt fit counted settled here =
    let there = if_so-at _ _ (each_fit-at _ shares_not n p.look fit) here in
    let fit' : is_fit (owned n owner sharer keeper) p.look ≡ true = rw (owns, not_sharer, keeps) there in
    record {
      fit = fit';
      counted = counted;
      seen = record { waits = λ h. h; fwd_get_m = λ h. h; fwd_get_s = λ h. h; names = refl };
      due = λ h. absurd (true≢false (sym h ∙ settled));
      owing = settled ∙ sym no_debt;
    }

writer_awaits : (n : Near) (p : Part) → is_fit n p.look ≡ true
    → (is_shared n.directory && is_get_m p.look.request && not (owes p.look)) ≡ true
    → (awaits (read p.look) ≡ true) × (awaits p.look ≡ false)
writer_awaits n p fit here =
    let e = left _ _ (if_so-at _ _ (each_fit-at _ writes n p.look fit) here) in
    (right _ _ (left _ _ e), not-at _ (right _ _ e))

-- The parts after the row.
abbrev pub warned : ℕ → ℕ → ℕ → (ℕ → Part) → ℕ → Part
warned c acks set part x = change_if (has set x) (invalidated_by c) (told c (dir_sends.DataAndInv acks set) part x)

pub write_shared : (cores : ℕ) (roles : Roles) (s : ℕ) (home : Bool) (part : ℕ → Part) (core : CoreId) → cores ≤ 64
    → IsCoherent cores (line_at dir_states.S None s home part) roles → core.0 < cores
    → is_get_m (part core.0).look.request ≡ true
    → IsCoherent cores (line_at dir_states.M (Some core) 0 home (warned core.0 (count_of (without s core.0))
    (without s core.0) part)) (record roles { keeper = core.0 })
unfolding is_open
write_shared cores roles s home part core most coherent within asks =
    let c = core.0 in
    let small : c < 64 = omega arith in
    let acks = count_of (without s c) in
    let set = without s c in
    let line = line_at dir_states.S None s home part in
    let old = near_of line roles in
    let next = line_at dir_states.M (Some core) 0 home (warned c acks set part) in
    let now = near_of next (record roles { keeper = c }) in
    let quiet = quiet_open cores line roles coherent refl in
    let others : ℕ → Bool = λ x. has s x && not (x == c) in
    let ask : (is_get_m (part c).look.request && not (owes (part c).look)) ≡ true = and_from _ _ asks
    (ap not (quiet.owes c within)) in
    let not_self : has set c ≡ false =
    in_without s c c small small ∙ ap (λ b. has s c && not b) (eq-eqb c c refl) ∙ and-false (has s c) in
    let no_debt : others c ≡ false = ap (λ b. has s c && not b) (eq-eqb c c refl) ∙ and-false (has s c) in
    let one : (x : ℕ) → x < cores → After (now x) c (others x) (part x) (warned c acks set part x) = λ x below.
    let here : x < 64 = omega arith in
    by_test (After (now x) c (others x) (part x)) (has set x) (invalidated_by c)
    (told c (dir_sends.DataAndInv acks set) part x)
    (λ is.
    let debt : others x ≡ true = sym (in_without s c x small here) ∙ is in
    by_place (λ y q. others y ≡ true → After (now y) c (others y) (part y) (invalidated_by c q)) part c
    (part_after_answer (dir_sends.DataAndInv acks set)) x
    (λ d. absurd (true≢false (sym d ∙ no_debt)))
    (λ other d. sharer_after (old x) c (part x) (x == c) (has 0 x) (x == c) (others x) (ne_eqb x c other)
    (in_none 0 x refl) (ne_eqb x c other)
    d (coherent.fit x below) (coherent.counted x below) (and_from _ _ (is_sharer s x c d)
    (ap not (quiet.owes x below))))
    debt)
    (λ out.
    let debt : others x ≡ false = sym (in_without s c x small here) ∙ out in
    by_place (λ y q. others y ≡ false → After (now y) c (others y) (part y) q) part c
    (part_after_answer (dir_sends.DataAndInv acks set)) x
    (λ d. writer_after (old c) c acks set (part c) (c == c) (has 0 c) (c == c) (others c) (eq-eqb c c refl)
    (in_none 0 c refl)
    (eq-eqb c c refl) d (coherent.fit c within) (coherent.counted c within) ask)
    (λ other d. other_after (old x) c (part x) (x == c) (has 0 x) (x == c) (others x) (ne_eqb x c other)
    (in_none 0 x refl)
    (ne_eqb x c other) d (coherent.fit x below) (coherent.counted x below) (quiet.owes x below)
    (and_from _ _ (ap not (no_sharer s x c other d)) (ap not (quiet.owes x below))))
    debt) in
    let there : warned c acks set part c ≡ part_after_answer (dir_sends.DataAndInv acks set) (part c) =
    ap (λ b. change_if b (invalidated_by c) (told c (dir_sends.DataAndInv acks set) part c)) not_self
    ∙ at_place part c (part_after_answer (dir_sends.DataAndInv acks set)) in
    let awaited = writer_awaits (old c) (part c) (coherent.fit c within) ask in
    let count : debts cores (warned c acks set part) ≡ acks =
    count_below-same cores (λ x. owes (warned c acks set part x).look) others (λ x below. (one x below).owing)
    ∙ sym (others_count cores s c most small coherent.entry.sharers_within) in
    let wants : wanted_acks (warned c acks set part c) ≡ acks =
    ap (λ q. wanted_acks q) there ∙ ap (λ b. if b then acks else 0) awaited.0 in
    let counted : (warned c acks set part c).counted ≡ 0 = ap (λ q. q.counted) there
    ∙ (coherent.counted c within).none awaited.1 in
    record {
      fit = λ x below. (one x below).fit;
      counted = λ x below. (one x below).counted;
      chained = chain_kept cores roles.asker roles.by part (warned c acks set part)
          (λ x below. (one x below).seen) coherent.chained;
      balanced = record { due = λ x below. (one x below).due; sum = omega (arith, count, wants, counted) };
      entry = record {
        in_m = refl;
        owner_within = within;
        sharers_within = λ x below h. absurd
            (true≢false (sym h ∙ in_none 0 x refl));
      };
      roles_within = record {
        keeper = within;
        server = coherent.roles_within.server;
        asker = coherent.roles_within.asker;
      };
    }
  where
    is_sharer : (s x c : ℕ) → (has s x && not (x == c)) ≡ true → has s x ≡ true
    is_sharer s x c d = left (has s x) (not (x == c)) d

    no_sharer : (s x c : ℕ) → (x ≡ c → ⊥) → (has s x && not (x == c)) ≡ false → has s x ≡ false
    no_sharer s x c other d = sym (and-true (has s x)) ∙ ap (λ b. has s x && not b) (sym (ne_eqb x c other)) ∙ d
