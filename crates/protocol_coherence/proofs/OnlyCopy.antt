-- The directory gives the only copy of a line that no core has: the core that asks is the keeper from then on.
use Rattle.std.proofs.Common.{◌≡◌, ℕ, ◌<◌, ◌==◌, ◌&&◌, Bool, true, false, not, refl, ap, sym, ◌∙◌, Some, None}
use Rattle.std.proofs.Common.{if◌then◌else◌, true≢false}
use Rattle.std.proofs.lemmas.Bool.{and_from, eq-eqb, ne_eqb}
use Rattle.address_map.specs.declared.address.CoreId.{CoreId}
use Rattle.directory_table.specs.Law.{is_idle}
use Rattle.directory_table.specs.declared.state.DirState.TheVariants as dir_states
use Rattle.directory_table.specs.declared.row.DirSends.{DirSends}
use Rattle.directory_table.specs.declared.row.DirSends.TheVariants as dir_sends
use Rattle.protocol_coherence.proofs.Answer.{line_at, read, told}
use Rattle.protocol_coherence.proofs.Each.{all_words, each_fit, each_fit-at, if_so, if_so-at, left, not-at, right}
use Rattle.protocol_coherence.proofs.Frame.{Seen, at_place, balance_none, by_place, chain_kept}
use Rattle.protocol_coherence.proofs.Quiet.{quiet_open}
use Rattle.protocol_coherence.proofs.Seen.{seen_alike, seen_from}
use Rattle.protocol_coherence.specs.Coherent.{IsCoherent, IsCounted, wanted_acks}
use Rattle.protocol_coherence.specs.Fit.{awaits, is_counting, is_fit, is_get_m, is_get_s, owes}
use Rattle.protocol_coherence.specs.Line.{Look, Near, Part, Roles, near_of, no_request, only_data}
use Rattle.protocol_coherence.specs.LineSteps.{part_after_answer}

-- The part of each core afterwards.
record After (near : Near) (p q : Part) : Type 0 where
  fit : is_fit near q.look ≡ true
  counted : IsCounted q
  seen : Seen p q
  owing : owes q.look ≡ false

-- The look with the only copy on its way.
abbrev pub lent : Look → Look
lent l = record l { request = no_request; incoming = only_data }

-- The new keeper's look fits, and is seen alike.
unfoldable pub takes : Look → Look → Near → Bool
takes l m n =
    is_fit (record n { directory = dir_states.M; owner = true; keeper = true }) m && seen_alike l m && not (owes m)
    && not (awaits l)
    && not (is_counting m.state)

takes_only : each_fit (λ n l. if_so (is_idle n.directory && is_get_s l.request && not (owes l))
    (λ _. takes l (lent l) n)) ≡ true
unfolding all_words takes seen_alike
takes_only = refl

takes_data : each_fit (λ n l. if_so (is_idle n.directory && is_get_m l.request && not (owes l))
    (λ _. takes l (read l) n)) ≡ true
unfolding all_words takes seen_alike
takes_data = refl

not_taker : each_fit (λ n l. if_so (is_idle n.directory && not (owes l)) (λ _.
    is_fit (record n { directory = dir_states.M; owner = false; keeper = false }) l)) ≡ true
unfolding all_words
not_taker = refl

pub no_wants : (b : Bool) (n : ℕ) → n ≡ 0 → (if b then n else 0) ≡ 0
no_wants true n e = e
no_wants false n e = refl

taker : (n : Near) (p q : Part) (owner keeper : Bool) → owner ≡ true → keeper ≡ true → takes p.look q.look n ≡ true
    → IsCounted p
    → q.names ≡ p.names → q.counted ≡ p.counted → After (record n
    { directory = dir_states.M; owner = owner; keeper = keeper }) p q
unfolding takes
taker n p q owner keeper owns keeps e counted names count =
    let e1 = left _ _ e in
    let e2 = left _ _ e1 in
    let e3 = left _ _ e2 in
    let fit : is_fit (record n { directory = dir_states.M; owner = owner; keeper = keeper }) q.look ≡ true =
    rw (owns, keeps)
    (left _ _ e3) in
    record {
      fit = fit;
      counted = record {
        missing = λ h. absurd (true≢false (sym h ∙ not-at _ (right _ _ e)));
        none = λ h. count ∙ counted.none (not-at _ (right _ _ e1));
      };
      seen = seen_from p q (right _ _ e3) names;
      owing = not-at _ (right _ _ e2);
    }

taker_awaits : (n : Near) (l m : Look) → takes l m n ≡ true → awaits l ≡ false
unfolding takes
taker_awaits n l m e = not-at _ (right _ _ (left _ _ e))

bystander : (n : Near) (p : Part) (owner keeper : Bool) → owner ≡ false → keeper ≡ false → is_idle n.directory ≡ true
    → is_fit n p.look ≡ true → IsCounted p → owes p.look ≡ false
    → After (record n { directory = dir_states.M; owner = owner; keeper = keeper }) p p
bystander n p owner keeper owns keeps state fit counted settled =
    let there = if_so-at _ _ (each_fit-at _ not_taker n p.look fit) (and_from _ _ state (ap not settled)) in
    let fit' : is_fit (record n { directory = dir_states.M; owner = owner; keeper = keeper }) p.look ≡ true = rw
    (owns, keeps) there in
    record {
      fit = fit';
      counted = counted;
      seen = record { waits = λ h. h; fwd_get_m = λ h. h; fwd_get_s = λ h. h; names = refl };
      owing = settled;
    }

-- The frame of both rows.
granted_line : (cores : ℕ) (roles : Roles) (s : ℕ) (home : Bool) (part : ℕ → Part) (core : CoreId) (sent : DirSends)
    → IsCoherent cores (line_at dir_states.I None s home part) roles → core.0 < cores
    → takes (part core.0).look (part_after_answer sent (part core.0)).look
    (near_of (line_at dir_states.I None s home part) roles core.0) ≡ true
    → (part_after_answer sent (part core.0)).names ≡ (part core.0).names
    → (part_after_answer sent (part core.0)).counted ≡ (part core.0).counted
    → (part_after_answer sent (part core.0)).wants ≡ 0
    → IsCoherent cores (line_at dir_states.M (Some core) s home (told core.0 sent part))
    (record roles { keeper = core.0 })
granted_line cores roles s home part core sent coherent within taken names count wants =
    let c = core.0 in
    let old = near_of (line_at dir_states.I None s home part) roles in
    let next = line_at dir_states.M (Some core) s home (told c sent part) in
    let quiet = quiet_open cores (line_at dir_states.I None s home part) roles coherent refl in
    let there = at_place part c (part_after_answer sent) in
    let none : (part_after_answer sent (part c)).counted ≡ 0 = count ∙ (coherent.counted c within).none
    (taker_awaits (old c) (part c).look _ taken) in
    let one : (x : ℕ) → x < cores → After (near_of next (record roles { keeper = c }) x) (part x)
    (told c sent part x) = λ x below.
    by_place (λ y q. After (near_of next (record roles { keeper = c }) y) (part y) q) part c (part_after_answer sent) x
    (taker (old c) (part c) (part_after_answer sent (part c)) (c == c) (c == c) (eq-eqb c c refl) (eq-eqb c c refl)
    taken
    (coherent.counted c within) names count)
    (λ other. bystander (old x) (part x) (x == c) (x == c) (ne_eqb x c other) (ne_eqb x c other) refl
    (coherent.fit x below)
    (coherent.counted x below) (quiet.owes x below)) in
    record {
      fit = λ x below. (one x below).fit;
      counted = λ x below. (one x below).counted;
      chained = chain_kept cores roles.asker roles.by part (told c sent part)
          (λ x below. (one x below).seen) coherent.chained;
      balanced = balance_none cores c (told c sent part) (λ x below. (one x below).owing)
          (ap (λ q. q.counted) there ∙ none)
          (ap (λ q. wanted_acks q) there ∙ no_wants (awaits (part_after_answer sent (part c)).look)
          (part_after_answer sent (part c)).wants wants);
      entry = record { in_m = refl; owner_within = within; sharers_within = coherent.entry.sharers_within };
      roles_within = record {
        keeper = within;
        server = coherent.roles_within.server;
        asker = coherent.roles_within.asker;
      };
    }

-- With the exclusive state: a reader is given the only copy.
pub read_alone : (cores : ℕ) (roles : Roles) (s : ℕ) (home : Bool) (part : ℕ → Part) (core : CoreId)
    → IsCoherent cores (line_at dir_states.I None s home part) roles → core.0 < cores
    → is_get_s (part core.0).look.request ≡ true
    → IsCoherent cores (line_at dir_states.M (Some core) s home (told core.0 dir_sends.DataE part))
    (record roles { keeper = core.0 })
read_alone cores roles s home part core coherent within asks =
    let line = line_at dir_states.I None s home part in
    let quiet = quiet_open cores line roles coherent refl in
    granted_line cores roles s home part core dir_sends.DataE coherent within
    (if_so-at _ _ (each_fit-at _ takes_only (near_of line roles core.0) (part core.0).look (coherent.fit core.0 within))
    (and_from _ _ asks (ap not (quiet.owes core.0 within))))
    refl refl refl

-- A writer is given the only copy.
pub write_idle : (cores : ℕ) (roles : Roles) (s : ℕ) (home : Bool) (part : ℕ → Part) (core : CoreId)
    → IsCoherent cores (line_at dir_states.I None s home part) roles → core.0 < cores
    → is_get_m (part core.0).look.request ≡ true
    → IsCoherent cores (line_at dir_states.M (Some core) s home (told core.0 (dir_sends.Data 0) part))
    (record roles { keeper = core.0 })
write_idle cores roles s home part core coherent within asks =
    let line = line_at dir_states.I None s home part in
    let quiet = quiet_open cores line roles coherent refl in
    granted_line cores roles s home part core (dir_sends.Data 0) coherent within
    (if_so-at _ _ (each_fit-at _ takes_data (near_of line roles core.0) (part core.0).look (coherent.fit core.0 within))
    (and_from _ _ asks (ap not (quiet.owes core.0 within))))
    refl refl refl
