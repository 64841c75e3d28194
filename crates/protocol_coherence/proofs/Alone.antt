-- A core's turn that changes no other core's part: an access, an Inv, a Put-Ack, Data-E, or Data that leave the miss
-- open.
use Rattle.std.proofs.Common.{◌≡◌, ℕ, ◌<◌, ◌==◌, ◌&&◌, ◌||◌, Bool, true, false, not, refl, sym, subst, true≢false, inl}
use Rattle.std.proofs.Common.{inr}
use Rattle.std.proofs.lemmas.Bool.{or_cases}
use Rattle.cache_table.specs.CopyState.{is_waiting}
use Rattle.cache_table.specs.Law.{sends_data, sends_home}
use Rattle.cache_table.specs.Row.{row_of}
use Rattle.cache_table.specs.declared.row.CacheEvent.{CacheEvent}
use Rattle.cache_table.specs.declared.row.CacheEvent.TheVariants as cache_events
use Rattle.cache_table.specs.declared.row.CacheSends.{CacheSends}
use Rattle.cache_table.specs.declared.row.Row.TheVariants as rows
use Rattle.cache_table.specs.declared.state.CopyState.{CopyState}
use Rattle.protocol_coherence.proofs.Each.{all_words, each_fit, each_fit-at, if_go, if_go-at, if_so, if_so-at}
use Rattle.protocol_coherence.proofs.Each.{implies-at, iff-at, left, not-at, right}
use Rattle.protocol_coherence.proofs.Frame.{Kept, by_place, lift, still}
use Rattle.protocol_coherence.proofs.Seen.{counted_on, kept_from, seen_alike, seen_from, wanted_same}
use Rattle.protocol_coherence.specs.Coherent.{IsCoherent, IsCounted}
use Rattle.protocol_coherence.specs.Fit.{◌implies◌, ◌iff◌, awaits, is_counting, is_fit, is_only_data, is_open}
use Rattle.protocol_coherence.specs.Fit.{is_put_ack_first, owes}
use Rattle.protocol_coherence.specs.Line.{Line, Look, Near, Part, Roles, near_of}
use Rattle.protocol_coherence.specs.LineSteps.{part_after_row, after_turn, change_if, part_with_data, look_after_row}

-- The row sends no data, and the look after it fits, is seen alike, owes and awaits as before, and counts on.
unfoldable pub is_alone : Bool → Near → Look → CacheEvent → CopyState → CacheSends → Bool
is_alone few n l event next sent =
    not (sends_data sent) && not (sends_home sent)
    && is_fit n (look_after_row event next sent l)
    && seen_alike l (look_after_row event next sent l)
    && (owes (look_after_row event next sent l) iff owes l)
    && (awaits (look_after_row event next sent l) iff awaits l)
    && (is_counting next implies (few || is_counting l.state))
    && (is_waiting next || not (awaits l))

-- That is so of each look that fits and passes the guard. Where few, less is counted than is wanted.
unfoldable pub is_alone_at : CacheEvent → Bool → (Near → Look → Bool) → Bool
is_alone_at event few guard =
    each_fit (λ n l. if_so (guard n l) (λ _. if_go (row_of l.state event)
    (λ next sent. is_alone few n l event next sent)))

pub record Alone (few : Bool) (n : Near) (l : Look) (event : CacheEvent) (next : CopyState)
    (sent : CacheSends) : Type 0 where
  pub no_data : sends_data sent ≡ false
  pub no_home : sends_home sent ≡ false
  pub fit : is_fit n (look_after_row event next sent l) ≡ true
  pub seen : seen_alike l (look_after_row event next sent l) ≡ true
  pub owing : owes (look_after_row event next sent l) ≡ owes l
  pub await : awaits (look_after_row event next sent l) ≡ awaits l
  pub count : is_counting next ≡ true → (few || is_counting l.state) ≡ true
  pub wait : (is_waiting next || not (awaits l)) ≡ true

alone_from : (few : Bool) (n : Near) (l : Look) (event : CacheEvent) (next : CopyState) (sent : CacheSends)
    → is_alone few n l event next sent ≡ true → Alone few n l event next sent
unfolding is_alone
alone_from few n l event next sent e =
    let e1 = left _ _ e in
    let e2 = left _ _ e1 in
    let e3 = left _ _ e2 in
    let e4 = left _ _ e3 in
    let e5 = left _ _ e4 in
    let e6 = left _ _ e5 in
    record {
      no_data = not-at _ (left _ _ e6);
      no_home = not-at _ (right _ _ e6);
      fit = right _ _ e5;
      seen = right _ _ e4;
      owing = iff-at _ _ (right _ _ e3);
      await = iff-at _ _ (right _ _ e2);
      count = implies-at _ _ (right _ _ e1);
      wait = right _ _ e;
    }

pub alone_at : (event : CacheEvent) (few : Bool) (guard : Near → Look → Bool) → is_alone_at event few guard ≡ true
    → (n : Near) (l : Look) (next : CopyState) (sent : CacheSends) → is_fit n l ≡ true → guard n l ≡ true
    → row_of l.state event ≡ rows.Go next sent → Alone few n l event next sent
unfolding is_alone_at
alone_at event few guard tested n l next sent fit here row =
    alone_from few n l event next sent
    (if_go-at _ (λ next sent. is_alone few n l event next sent) next sent
    (if_so-at _ _ (each_fit-at _ tested n l fit) here) row)

pub alone_kept : (few : Bool) (n : Near) (p : Part) (event : CacheEvent) (next : CopyState) (sent : CacheSends)
    → IsCounted p
    → (few ≡ true → p.counted < p.wants) → Alone few n p.look event next sent →
    Kept n p (part_after_row event 0 next sent p)
alone_kept few n p event next sent counted fewer alone =
    let q = part_after_row event 0 next sent p in
    let count : q.counted ≡ p.counted = counted_on (is_waiting next)
    (awaits p.look) p.counted alone.wait counted.none in
    let missing : (few || is_counting p.look.state) ≡ true → p.counted < p.wants =
    λ h. elim (or_cases few (is_counting p.look.state) h) [
      | inl yes_few ↦ fewer yes_few
      | inr counts ↦ counted.missing
          counts
    ] in
    kept_from n p q alone.fit (seen_from p q alone.seen refl) (record { owes = alone.owing; due = refl }) alone.await
    (wanted_same p q alone.await refl) count
    (λ h. subst (λ k. k < p.wants) (sym count) (missing (alone.count h))) counted

-- The line after a turn that sends no data.
pub turn_alone : (cores : ℕ) (line : Line) (roles : Roles) (c : ℕ) (event : CacheEvent) (next : CopyState)
    (sent : CacheSends)
    → IsCoherent cores line roles → sends_data sent ≡ false → sends_home sent ≡ false
    → Kept (near_of line roles c) (line.part c) (part_after_row event 0 next sent (line.part c))
    → IsCoherent cores (after_turn line c event next sent) roles
turn_alone cores line roles c event next sent coherent no_data no_home kept = go (sends_data sent)
    (sends_home sent) no_data no_home
  where
    go : (gives homes : Bool) → gives ≡ false → homes ≡ false
        → IsCoherent cores (record line {
          home = homes || line.home;
          part = λ x. change_if (gives && x == (line.part c).names) part_with_data
              (change_if (x == c) (part_after_row event 0 next sent) (line.part x));
        }) roles
    go true homes e f = absurd (true≢false e)
    go false true e f = absurd (true≢false f)
    go false false e f =
        lift cores line
        (record line { part = λ x. change_if (x == c) (part_after_row event 0 next sent) (line.part x) }) roles
        coherent coherent.entry
        (λ x below. by_place (λ y q. Kept (near_of line roles y) (line.part y) q) line.part c
        (part_after_row event 0 next sent) x kept
        (λ other. still (near_of line roles x) (line.part x) (coherent.fit x below) (coherent.counted x below)))

-- A turn that the tests let through keeps the line coherent.
pub turn_kept : (cores : ℕ) (line : Line) (roles : Roles) (c : ℕ) (event : CacheEvent) (next : CopyState)
    (sent : CacheSends)
    (guard : Near → Look → Bool) → is_alone_at event false guard ≡ true → IsCoherent cores line roles → c < cores
    → guard (near_of line roles c) (line.part c).look ≡ true → row_of (line.part c).look.state event ≡ rows.Go next sent
    → IsCoherent cores (after_turn line c event next sent) roles
turn_kept cores line roles c event next sent guard tested coherent within here row =
    let n = near_of line roles c in
    let p = line.part c in
    let alone = alone_at event false guard tested n p.look next sent (coherent.fit c within) here row in
    turn_alone cores line roles c event next sent coherent alone.no_data alone.no_home
    (alone_kept false n p event next sent (coherent.counted c within) (λ h. absurd (true≢false (sym h))) alone)

-- ---- each of them

pub load : is_alone_at cache_events.Load false (λ n l. true) ≡ true
unfolding all_words is_alone_at is_alone seen_alike
load = refl

pub write : is_alone_at cache_events.Write false (λ n l. true) ≡ true
unfolding all_words is_alone_at is_alone seen_alike
write = refl

pub eviction : is_alone_at cache_events.Eviction false (λ n l. true) ≡ true
unfolding all_words is_alone_at is_alone seen_alike
eviction = refl

-- No core is invalidated while the home copy can be read.
pub inv : is_alone_at cache_events.Inv false (λ n l. l.inv && not (is_open n.directory n.home)) ≡ true
unfolding all_words is_alone_at is_alone seen_alike
inv = refl

pub put_ack : is_alone_at cache_events.PutAck false (λ n l. is_put_ack_first l) ≡ true
unfolding all_words is_alone_at is_alone seen_alike
put_ack = refl

pub data_e : (loads : Bool) → is_alone_at (cache_events.DataE loads) false (λ n l. is_only_data l.incoming) ≡ true
unfolding all_words is_alone_at is_alone seen_alike
data_e true = refl
data_e false = refl
