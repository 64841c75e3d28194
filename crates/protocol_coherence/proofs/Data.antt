-- A core takes its Data: the miss ends, or goes on until the last acknowledgement has come.
use Rattle.std.proofs.Common.{◌≡◌, ℕ, ◌+◌, ◌<◌, ◌==◌, ◌&&◌, Bool, true, false, not, refl, ap, sym, ◌∙◌, arith}
use Rattle.std.proofs.Common.{if◌then◌else◌, true≢false, nat_lt, IsTrue}
use Rattle.std.proofs.lemmas.Bool.{and_parts, eqb-true, ltb-true}
use Rattle.cache_table.specs.CopyState.{is_waiting}
use Rattle.cache_table.specs.Law.{sends_data, sends_home}
use Rattle.cache_table.specs.Row.{row_of}
use Rattle.cache_table.specs.declared.row.CacheEvent.{CacheEvent}
use Rattle.cache_table.specs.declared.row.CacheEvent.TheVariants as cache_events
use Rattle.cache_table.specs.declared.row.CacheSends.{CacheSends}
use Rattle.cache_table.specs.declared.row.Row.TheVariants as rows
use Rattle.cache_table.specs.declared.state.CopyState.{CopyState}
use Rattle.protocol_coherence.proofs.Alone.{alone_at, alone_kept, is_alone, is_alone_at, turn_alone}
use Rattle.protocol_coherence.proofs.Each.{all_words, each_fit, each_fit-at, if_go, if_go-at, if_so, if_so-at, iff-at}
use Rattle.protocol_coherence.proofs.Each.{left, not-at, right}
use Rattle.protocol_coherence.proofs.Frame.{Kept}
use Rattle.protocol_coherence.proofs.Samples.{data_row}
use Rattle.protocol_coherence.proofs.Seen.{seen_alike, seen_from}
use Rattle.protocol_coherence.specs.Coherent.{IsCoherent, IsCounted, wanted_acks}
use Rattle.protocol_coherence.specs.Fit.{◌iff◌, awaits, is_counting, is_fit, is_shared_data, owes}
use Rattle.protocol_coherence.specs.Line.{Line, Look, Near, Part, Roles, near_of}
use Rattle.protocol_coherence.specs.LineSteps.{part_after_row, after_turn, stands, look_after_row}

-- The row ends the miss, and the look after it fits.
unfoldable pub is_ended : Near → Look → CacheEvent → CopyState → CacheSends → Bool
is_ended n l event next sent =
    not (sends_data sent) && not (sends_home sent)
    && is_fit n (look_after_row event next sent l)
    && seen_alike l (look_after_row event next sent l)
    && (owes (look_after_row event next sent l) iff owes l)
    && not (awaits (look_after_row event next sent l))
    && not (is_counting next)
    && not (is_waiting next)

pub record Ended (n : Near) (l : Look) (event : CacheEvent) (next : CopyState) (sent : CacheSends) : Type 0 where
  pub no_data : sends_data sent ≡ false
  pub no_home : sends_home sent ≡ false
  pub fit : is_fit n (look_after_row event next sent l) ≡ true
  pub seen : seen_alike l (look_after_row event next sent l) ≡ true
  pub owing : owes (look_after_row event next sent l) ≡ owes l
  pub await : awaits (look_after_row event next sent l) ≡ false
  pub count : is_counting next ≡ false
  pub wait : is_waiting next ≡ false

pub ended_from : (n : Near) (l : Look) (event : CacheEvent) (next : CopyState) (sent : CacheSends)
    → is_ended n l event next sent ≡ true → Ended n l event next sent
unfolding is_ended
ended_from n l event next sent e =
    let e1 = left _ _ e in
    let e2 = left _ _ e1 in
    let e3 = left _ _ e2 in
    let e4 = left _ _ e3 in
    let e5 = left _ _ e4 in
    let e6 = left _ _ e5 in
    record {
      no_data = not-at _ (left _ _ e6);
      no_home = not-at _ (right _ _ e6);
      fit = right _ _ e5;
      seen = right _ _ e4;
      owing = iff-at _ _ (right _ _ e3);
      await = not-at _ (right _ _ e2);
      count = not-at _ (right _ _ e1);
      wait = not-at _ (right _ _ e);
    }

all_data : each_fit (λ n l. if_so (is_shared_data l.incoming) (λ _.
    if_go (row_of l.state (cache_events.Data 0 0)) (λ next sent. is_ended n l (cache_events.Data 0 0) next sent)))
    ≡ true
unfolding all_words is_ended seen_alike
all_data = refl

few_data : is_alone_at (cache_events.Data 1 0) true (λ n l. is_shared_data l.incoming) ≡ true
unfolding all_words is_alone_at is_alone seen_alike
few_data = refl

more_data : is_alone_at (cache_events.Data 0 1) false (λ n l. is_shared_data l.incoming) ≡ true
unfolding all_words is_alone_at is_alone seen_alike
more_data = refl

-- Where the number counted is the number wanted, nothing is awaited any more.
balanced : (waits awaits : Bool) (k n : ℕ) → waits ≡ false → k ≡ n → (awaits ≡ false → k ≡ 0)
    → (if waits then k + 0 else 0) + (if awaits then n else 0) ≡ 0 + k
balanced true awaits k n e same none = absurd (true≢false e)
balanced false true k n e same none = omega arith
balanced false false k n e same none = omega (arith, none refl)

ended_kept : (n : Near) (p : Part) (event : CacheEvent) (next : CopyState) (sent : CacheSends) → IsCounted p
    → p.counted ≡ p.wants → Ended n p.look event next sent → Kept n p (part_after_row event 0 next sent p)
ended_kept n p event next sent counted same ended =
    let q = part_after_row event 0 next sent p in
    let nothing : wanted_acks q ≡ 0 = ap (λ b. if b then q.wants else 0) ended.await in
    record {
      fit = ended.fit;
      counted = record {
        missing = λ h. absurd (true≢false (sym h ∙ ended.count));
        none = λ h. ap (λ b. if b then p.counted + 0 else 0) ended.wait;
      };
      seen = seen_from p q ended.seen refl;
      owing = record { owes = ended.owing; due = refl };
      balance = balanced (is_waiting next) (awaits p.look) p.counted p.wants ended.wait same counted.none
          ∙ ap (λ w. w + p.counted) (sym nothing);
    }

pub record AtHand (p : Part) (n k : ℕ) : Type 0 where
  pub incoming : is_shared_data p.look.incoming ≡ true
  pub wants : n ≡ p.wants
  pub counts : k ≡ p.counted

pub at_hand : (p : Part) (n k : ℕ) → IsTrue (stands p (cache_events.Data n k)) → AtHand p n k
at_hand p n k here =
    let front = and_parts (is_shared_data p.look.incoming && n == p.wants) (k == p.counted) here in
    let more = and_parts (is_shared_data p.look.incoming) (n == p.wants) front.0 in
    record { incoming = more.0; wants = eqb-true n p.wants more.1; counts = eqb-true k p.counted front.1 }

-- Taking Data keeps the line coherent.
pub data_kept : (cores : ℕ) (line : Line) (roles : Roles) (c n k : ℕ) (next : CopyState) (sent : CacheSends)
    → IsCoherent cores line roles → c < cores → IsTrue (stands (line.part c) (cache_events.Data n k))
    → row_of (line.part c).look.state (cache_events.Data n k) ≡ rows.Go next sent
    → IsCoherent cores (after_turn line c (cache_events.Data n k) next sent) roles
data_kept cores line roles c n k next sent coherent within here row = go (k == n) (nat_lt k n) refl refl
  where
    near : Near
    near = near_of line roles c

    p : Part
    p = line.part c

    hand : AtHand p n k
    hand = at_hand p n k here

    go : (all few : Bool) → (k == n) ≡ all → nat_lt k n ≡ few
        → IsCoherent cores (after_turn line c (cache_events.Data n k) next sent) roles
    go true few e f =
        let known = sym (data_row p.look.state n k true few e f) ∙ row in
        let ended = ended_from near p.look (cache_events.Data 0 0) next sent
        (if_go-at _ (λ next sent. is_ended near p.look (cache_events.Data 0 0) next sent) next sent
        (if_so-at _ _ (each_fit-at _ all_data near p.look (coherent.fit c within)) hand.incoming) known) in
        turn_alone cores line roles c (cache_events.Data n k) next sent coherent ended.no_data ended.no_home
        (ended_kept near p (cache_events.Data 0 0) next sent (coherent.counted c within)
        (sym hand.counts ∙ eqb-true k n e ∙ hand.wants) ended)
    go false true e f =
        let known = sym (data_row p.look.state n k false true e f) ∙ row in
        let alone = alone_at (cache_events.Data 1 0) true (λ n l. is_shared_data l.incoming) few_data near p.look next
        sent
        (coherent.fit c within) hand.incoming known in
        turn_alone cores line roles c (cache_events.Data n k) next sent coherent alone.no_data alone.no_home
        (alone_kept true near p (cache_events.Data 1 0) next sent (coherent.counted c within)
        (λ h. omega (arith, ltb-true k n f, hand.wants, hand.counts)) alone)
    go false false e f =
        let known = sym (data_row p.look.state n k false false e f) ∙ row in
        let alone = alone_at (cache_events.Data 0 1) false (λ n l. is_shared_data l.incoming) more_data near p.look next
        sent
        (coherent.fit c within) hand.incoming known in
        turn_alone cores line roles c (cache_events.Data n k) next sent coherent alone.no_data alone.no_home
        (alone_kept false near p (cache_events.Data 0 1) next sent (coherent.counted c within)
        (λ h. absurd (true≢false (sym h))) alone)
