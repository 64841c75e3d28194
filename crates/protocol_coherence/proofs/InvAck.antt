-- A core takes the Inv-Ack of another: one less is due, and one more is counted, or all of them have come.
use Rattle.std.proofs.Common.{◌≡◌, ℕ, ◌+◌, ◌<◌, ◌==◌, ◌&&◌, ◌||◌, Bool, true, false, not, refl, ap, sym, ◌∙◌, subst}
use Rattle.std.proofs.Common.{arith, if◌then◌else◌, true≢false, nat_lt, IsTrue}
use Rattle.std.proofs.lemmas.Bool.{and_parts, eq-eqb, eqb-true, ltb-true}
use Rattle.cache_table.specs.CopyState.{is_waiting}
use Rattle.cache_table.specs.Row.{row_of}
use Rattle.cache_table.specs.declared.row.CacheEvent.{CacheEvent}
use Rattle.cache_table.specs.declared.row.CacheEvent.TheVariants as cache_events
use Rattle.cache_table.specs.declared.row.CacheSends.{CacheSends}
use Rattle.cache_table.specs.declared.row.Row.TheVariants as rows
use Rattle.cache_table.specs.declared.state.CopyState.{CopyState}
use Rattle.protocol_coherence.proofs.Count.{count_below-less}
use Rattle.protocol_coherence.proofs.Each.{all_words, each_fit, each_fit-at, if_go, if_go-at, if_so, if_so-at, iff-at}
use Rattle.protocol_coherence.proofs.Each.{implies-at, left, not-at, right}
use Rattle.protocol_coherence.proofs.Frame.{Seen, by_places, chain_kept}
use Rattle.protocol_coherence.proofs.Quiet.{quiet}
use Rattle.protocol_coherence.proofs.Samples.{ack_row, ack_sample}
use Rattle.protocol_coherence.proofs.Seen.{seen_alike, seen_from}
use Rattle.protocol_coherence.specs.Coherent.{IsCoherent, IsCounted, debts, wanted_acks}
use Rattle.protocol_coherence.specs.Fit.{◌iff◌, ◌implies◌, awaits, is_counting, is_fit, owes}
use Rattle.protocol_coherence.specs.Line.{Line, Look, Near, Part, Roles, near_of}
use Rattle.protocol_coherence.specs.LineSteps.{part_after_ack, part_after_row, after_ack, stands_ack, look_after_row}

-- The look after the row fits, and awaits more as long as its miss is outstanding, which ends with the last.
unfoldable pub is_acked : Bool → Bool → Near → Look → CopyState → CacheSends → Bool
is_acked all few n l next sent =
    is_fit n (look_after_row (cache_events.InvAck 0 0) next sent l)
    && seen_alike l (look_after_row (cache_events.InvAck 0 0) next sent l)
    && (owes (look_after_row (cache_events.InvAck 0 0) next sent l) iff owes l)
    && (awaits (look_after_row (cache_events.InvAck 0 0) next sent l) iff is_waiting next)
    && (is_waiting next || all)
    && (is_counting next implies few)

unfoldable pub is_acked_at : Bool → Bool → CacheEvent → Bool
is_acked_at all few event =
    each_fit (λ n l. if_so (awaits l) (λ _. if_go (row_of l.state event) (λ next sent. is_acked all few n l next sent)))

record Acked (all few : Bool) (n : Near) (l : Look) (next : CopyState) (sent : CacheSends) : Type 0 where
  fit : is_fit n (look_after_row (cache_events.InvAck 0 0) next sent l) ≡ true
  seen : seen_alike l (look_after_row (cache_events.InvAck 0 0) next sent l) ≡ true
  owing : owes (look_after_row (cache_events.InvAck 0 0) next sent l) ≡ owes l
  await : awaits (look_after_row (cache_events.InvAck 0 0) next sent l) ≡ is_waiting next
  ends : (is_waiting next || all) ≡ true
  count : is_counting next ≡ true → few ≡ true

acked_from : (all few : Bool) (n : Near) (l : Look) (next : CopyState) (sent : CacheSends)
    → is_acked all few n l next sent ≡ true → Acked all few n l next sent
unfolding is_acked
acked_from all few n l next sent e =
    let e1 = left _ _ e in
    let e2 = left _ _ e1 in
    let e3 = left _ _ e2 in
    let e4 = left _ _ e3 in
    record {
      fit = left _ _ e4;
      seen = right _ _ e4;
      owing = iff-at _ _ (right _ _ e3);
      await = iff-at _ _ (right _ _ e2);
      ends = right _ _ e1;
      count = implies-at _ _ (right _ _ e);
    }

acked : (all few : Bool) → is_acked_at all few (ack_sample all few) ≡ true
unfolding all_words is_acked_at is_acked seen_alike
acked true true = refl
acked true false = refl
acked false true = refl
acked false false = refl

acked_at : (all few : Bool) (n : Near) (l : Look) (next : CopyState) (sent : CacheSends) → is_fit n l ≡ true
    → awaits l ≡ true → row_of l.state (ack_sample all few) ≡ rows.Go next sent → Acked all few n l next sent
unfolding is_acked_at
acked_at all few n l next sent fit here row =
    acked_from all few n l next sent
    (if_go-at _ (λ next sent. is_acked all few n l next sent) next sent
    (if_so-at _ _ (each_fit-at _ (acked all few) n l fit) here) row)

-- An Inv-Ack that was taken: the look without it fits, and is seen alike.
sender : each_fit (λ n l. if_so l.sent (λ _.
    is_fit n (record l { sent = false }) && seen_alike l (record l { sent = false })
    && not (owes (record l { sent = false }))
    && (awaits (record l { sent = false }) iff awaits l) && owes l)) ≡ true
unfolding all_words seen_alike
sender = refl

keeper_owes : each_fit (λ n l. if_so n.keeper (λ _. not (owes l))) ≡ true
unfolding all_words
keeper_owes = refl

-- The part of each core afterwards.
record After (near : Near) (keeper c d x : ℕ) (p q : Part) : Type 0 where
  fit : is_fit near q.look ≡ true
  counted : IsCounted q
  seen : Seen p q
  due : owes q.look ≡ true → q.owes_to ≡ keeper
  gone : x ≡ d → owes q.look ≡ false
  left_over : (x ≡ d → ⊥) → owes p.look ≡ owes q.look
  balance : x ≡ c → q.counted + wanted_acks p ≡ wanted_acks q + (p.counted + 1)

-- One more is counted, or all are there.
one_more : (waits all : Bool) (k n : ℕ) → (waits || all) ≡ true → (all ≡ true → k + 1 ≡ n)
    → (if waits then k + 1 else 0) + n ≡ (if waits then n else 0) + (k + 1)
one_more true all k n e last = omega arith
one_more false all k n e last = omega (arith, last e)

taker : (all few : Bool) (near : Near) (keeper c d : ℕ) (p : Part) (next : CopyState) (sent : CacheSends) → (c ≡ d → ⊥)
    → owes p.look ≡ false → awaits p.look ≡ true → (all ≡ true → p.counted + 1 ≡ p.wants)
    → (few ≡ true → p.counted + 1 < p.wants)
    → Acked all few near p.look next sent →
    After near keeper c d c p (part_after_row (cache_events.InvAck 0 0) 1 next sent p)
taker all few near keeper c d p next sent apart debt await last fewer acked =
    let q = part_after_row (cache_events.InvAck 0 0) 1 next sent p in
    let want : wanted_acks p ≡ p.wants = ap (λ b. if b then p.wants else 0) await in
    let wants : wanted_acks q ≡ (if is_waiting next then p.wants else 0) =
    ap (λ b. if b then p.wants else 0) acked.await in
    record {
      fit = acked.fit;
      counted = record {
        missing = λ h. counted_on (is_waiting next) p.counted p.wants (fewer (acked.count h));
        none = λ h. ap (λ b. if b then p.counted + 1 else 0) (sym acked.await ∙ h);
      };
      seen = seen_from p q acked.seen refl;
      due = λ h. absurd (true≢false (sym h ∙ acked.owing ∙ debt));
      gone = λ same. absurd (apart same);
      left_over = λ other. sym acked.owing;
      balance = λ same. rw (want, wants) (one_more (is_waiting next) all p.counted p.wants acked.ends last);
    }
  where
    counted_on : (waits : Bool) (k n : ℕ) → k + 1 < n → (if waits then k + 1 else 0) < n
    counted_on true k n less = less
    counted_on false k n less = omega arith

giver : (near : Near) (keeper c d : ℕ) (p : Part) → (d ≡ c → ⊥) → is_fit near p.look ≡ true → IsCounted p
    → p.look.sent ≡ true
    → After near keeper c d d p (part_after_ack p)
unfolding seen_alike
giver near keeper c d p apart fit counted sent =
    let e = if_so-at _ _ (each_fit-at _ sender near p.look fit) sent in
    let e1 = left _ _ e in
    let e2 = left _ _ e1 in
    let e3 = left _ _ e2 in
    let none = not-at _ (right _ _ e2) in
    record {
      fit = left _ _ e3;
      counted = record { missing = counted.missing; none = λ h. counted.none (sym (iff-at _ _ (right _ _ e1)) ∙ h) };
      seen = seen_from p (part_after_ack p) (right _ _ e3) refl;
      due = λ h. absurd (true≢false (sym h ∙ none));
      gone = λ same. none;
      left_over = λ other. absurd (other refl);
      balance = λ same. absurd (apart same);
    }

bystander : (near : Near) (keeper c d x : ℕ) (p : Part) → (x ≡ c → ⊥) → (x ≡ d → ⊥) → is_fit near p.look ≡ true
    → IsCounted p
    → (owes p.look ≡ true → p.owes_to ≡ keeper) → After near keeper c d x p p
bystander near keeper c d x p not_c not_d fit counted due = record {
  fit = fit;
  counted = counted;
  seen = record { waits = λ h. h; fwd_get_m = λ h. h; fwd_get_s = λ h. h; names = refl };
  due = due;
  gone = λ same. absurd (not_d same);
  left_over = λ other. refl;
  balance = λ same. absurd (not_c same);
}

-- What is known of the two cores.
pub record Pair (cores : ℕ) (line : Line) (roles : Roles) (c d : ℕ) : Type 0 where
  pub sent : (line.part d).look.sent ≡ true
  pub keeper : c ≡ roles.keeper
  pub owing : owes (line.part d).look ≡ true
  pub settled : owes (line.part c).look ≡ false
  pub apart : d ≡ c → ⊥
  pub await : awaits (line.part c).look ≡ true

pub pair : (cores : ℕ) (line : Line) (roles : Roles) (c d : ℕ) → IsCoherent cores line roles → c < cores → d < cores
    → IsTrue (stands_ack (line.part d) c) → Pair cores line roles c d
unfolding seen_alike
pair cores line roles c d coherent within below here =
    let hand = and_parts (line.part d).look.sent ((line.part d).owes_to == c) here in
    let fit_d = coherent.fit d below in
    let owing : owes (line.part d).look ≡ true =
    right _ _ (if_so-at _ _ (each_fit-at _ sender (near_of line roles d) (line.part d).look fit_d) hand.0) in
    let keeper : c ≡ roles.keeper = sym (eqb-true (line.part d).owes_to c hand.1)
    ∙ coherent.balanced.due d below owing in
    let settled : owes (line.part c).look ≡ false =
    not-at _ (if_so-at _ _ (each_fit-at _ keeper_owes (near_of line roles c) (line.part c).look
    (coherent.fit c within)) (eq-eqb c roles.keeper keeper)) in
    record {
      sent = hand.0;
      keeper = keeper;
      owing = owing;
      settled = settled;
      apart = λ same. true≢false (sym owing ∙ ap (λ y. owes (line.part y).look) same ∙ settled);
      await = go (awaits (line.part c).look) refl keeper owing;
    }
  where
    go : (b : Bool) → awaits (line.part c).look ≡ b → c ≡ roles.keeper → owes (line.part d).look ≡ true → b ≡ true
    go true e keeper owing = refl
    go false e keeper owing =
        let none = quiet cores line roles coherent (subst (λ y. awaits (line.part y).look ≡ false) keeper e) in
        absurd (true≢false (sym owing ∙ none.owes d below))

-- Taking an Inv-Ack keeps the line coherent.
pub ack_kept : (cores : ℕ) (line : Line) (roles : Roles) (c d : ℕ) (next : CopyState) (sent : CacheSends)
    → IsCoherent cores line roles → c < cores → d < cores → IsTrue (stands_ack (line.part d) c)
    → row_of (line.part c).look.state (cache_events.InvAck (line.part c).wants (line.part c).counted)
    ≡ rows.Go next sent
    → IsCoherent cores (after_ack line c d next sent) roles
ack_kept cores line roles c d next sent coherent within below here row =
    let pair = pair cores line roles c d coherent within below here in
    let all = p.counted + 1 == p.wants in
    let few = nat_lt (p.counted + 1) p.wants in
    let acked = acked_at all few (near_of line roles c) p.look next sent (coherent.fit c within) pair.await
    (sym (ack_row p.look.state p.wants p.counted all few refl refl) ∙ row) in
    let taker = taker all few (near_of line roles c) roles.keeper c d p next sent
    (λ same. pair.apart (sym same)) pair.settled pair.await
    (eqb-true (p.counted + 1) p.wants) (ltb-true (p.counted + 1) p.wants) acked in
    let giver = giver (near_of line roles d) roles.keeper c d (line.part d) pair.apart (coherent.fit d below)
    (coherent.counted d below) pair.sent in
    let one : (x : ℕ) → x < cores → After (near_of line roles x) roles.keeper c d x (line.part x)
    ((after_ack line c d next sent).part x) =
    λ x less. by_places (λ y q. After (near_of line roles y) roles.keeper c d y (line.part y) q) line.part c d
    (part_after_row (cache_events.InvAck 0 0) 1 next sent) part_after_ack x pair.apart taker giver
    (λ not_c not_d. bystander (near_of line roles x) roles.keeper c d x (line.part x) not_c not_d
    (coherent.fit x less) (coherent.counted x less) (coherent.balanced.due x less)) in
    whole one pair
  where
    p : Part
    p = line.part c

    q : ℕ → Part
    q = (after_ack line c d next sent).part

    whole : ((x : ℕ) → x < cores → After (near_of line roles x) roles.keeper c d x (line.part x) (q x))
        → Pair cores line roles c d
        → IsCoherent cores (after_ack line c d next sent) roles
    whole one pair =
        let fewer : debts cores line.part ≡ debts cores q + 1 =
        count_below-less cores (λ x. owes (line.part x).look) (λ x. owes (q x).look) d below pair.owing
        ((one d below).gone refl)
        (λ x less other. (one x less).left_over other) in
        let balance = (one roles.keeper coherent.roles_within.keeper).balance (sym pair.keeper) in
        record {
          fit = λ x less. (one x less).fit;
          counted = λ x less. (one x less).counted;
          chained = chain_kept cores roles.asker roles.by line.part q (λ x less. (one x less).seen) coherent.chained;
          balanced = record {
            due = λ x less. (one x less).due;
            sum = omega (arith, fewer, balance, coherent.balanced.sum);
          };
          entry = coherent.entry;
          roles_within = coherent.roles_within;
        }
