-- The last owner serves a Fwd-GetS: the block goes to who asks and home, and both of them are sharers from then on.
use Rattle.std.proofs.Common.{◌≡◌, ℕ, ◌<◌, ◌==◌, ◌&&◌, ◌||◌, Bool, true, false, not, refl, sym, ◌∙◌, subst, true≢false}
use Rattle.std.proofs.Common.{IsTrue}
use Rattle.std.proofs.lemmas.Bool.{and_from, and_parts, eq-eqb, eqb-true, ne_eqb}
use Rattle.cache_table.specs.CopyState.{is_waiting}
use Rattle.cache_table.specs.Law.{sends_data, sends_home}
use Rattle.cache_table.specs.Row.{row_of}
use Rattle.cache_table.specs.declared.row.CacheEvent.TheVariants as cache_events
use Rattle.cache_table.specs.declared.row.CacheSends.{CacheSends}
use Rattle.cache_table.specs.declared.row.Row.TheVariants as rows
use Rattle.cache_table.specs.declared.state.CopyState.{CopyState}
use Rattle.protocol_coherence.proofs.Each.{all_words, each_fit, each_fit-at, if_go, if_go-at, if_so, if_so-at, iff-at}
use Rattle.protocol_coherence.proofs.Each.{left, not-at, right}
use Rattle.protocol_coherence.proofs.Frame.{Kept, by_places, lift}
use Rattle.protocol_coherence.proofs.Seen.{counted_on, kept_from, seen_alike, seen_from, wanted_same}
use Rattle.protocol_coherence.specs.Coherent.{IsCoherent, IsCounted}
use Rattle.protocol_coherence.specs.Fit.{◌iff◌, awaits, is_asked, is_counting, is_fit, is_fwd_get_s, owes}
use Rattle.protocol_coherence.specs.Line.{Line, Look, Near, Part, Roles, near_of, shared_data}
use Rattle.protocol_coherence.specs.LineSteps.{part_after_row, after_turn, change_if, part_with_data, stands}
use Rattle.protocol_coherence.specs.LineSteps.{look_after_row}

-- The row of the core that serves: its look fits with the block that comes home.
unfoldable pub serves : Near → Look → CopyState → CacheSends → Bool
serves n l next sent =
    sends_data sent && sends_home sent
    && is_fit (record n { home = true }) (look_after_row cache_events.FwdGetS next sent l)
    && seen_alike l (look_after_row cache_events.FwdGetS next sent l)
    && (owes (look_after_row cache_events.FwdGetS next sent l) iff owes l)
    && (awaits (look_after_row cache_events.FwdGetS next sent l) iff awaits l)
    && not (is_counting next)
    && (is_waiting next || not (awaits l))

record Serves (n : Near) (l : Look) (next : CopyState) (sent : CacheSends) : Type 0 where
  gives : sends_data sent ≡ true
  homes : sends_home sent ≡ true
  fit : is_fit (record n { home = true }) (look_after_row cache_events.FwdGetS next sent l) ≡ true
  seen : seen_alike l (look_after_row cache_events.FwdGetS next sent l) ≡ true
  owing : owes (look_after_row cache_events.FwdGetS next sent l) ≡ owes l
  await : awaits (look_after_row cache_events.FwdGetS next sent l) ≡ awaits l
  count : is_counting next ≡ false
  wait : (is_waiting next || not (awaits l)) ≡ true

serves_from : (n : Near) (l : Look) (next : CopyState) (sent : CacheSends) → serves n l next sent ≡ true
    → Serves n l next sent
unfolding serves
serves_from n l next sent e =
    let e1 = left _ _ e in
    let e2 = left _ _ e1 in
    let e3 = left _ _ e2 in
    let e4 = left _ _ e3 in
    let e5 = left _ _ e4 in
    let e6 = left _ _ e5 in
    record {
      gives = left _ _ e6;
      homes = right _ _ e6;
      fit = right _ _ e5;
      seen = right _ _ e4;
      owing = iff-at _ _ (right _ _ e3);
      await = iff-at _ _ (right _ _ e2);
      count = not-at _ (right _ _ e1);
      wait = right _ _ e;
    }

server : each_fit (λ n l. if_so (not l.inv && is_fwd_get_s l.forward) (λ _.
    if_go (row_of l.state cache_events.FwdGetS) (λ next sent. serves n l next sent))) ≡ true
unfolding all_words serves seen_alike
server = refl

-- Who is asked is the server and the keeper, and isn't who asks.
server_is : each_fit (λ n l. if_so (not l.inv && is_fwd_get_s l.forward) (λ _.
    if_go (row_of l.state cache_events.FwdGetS) (λ next sent. is_asked n.directory n.home && n.server && n.keeper
    && not n.asker))) ≡ true
unfolding all_words
server_is = refl

-- Who asks gets the data.
asker : each_fit (λ n l. if_so (is_asked n.directory n.home && n.asker) (λ _.
    is_fit (record n { home = true }) (record l { incoming = shared_data })
    && seen_alike l (record l { incoming = shared_data })
    && not (awaits l) && not (awaits (record l { incoming = shared_data })) && not (is_counting l.state))) ≡ true
unfolding all_words seen_alike
asker = refl

-- No other core has the line.
others : each_fit (λ n l. if_so (is_asked n.directory n.home && not n.server && not n.keeper && not n.asker) (λ _.
    is_fit (record n { home = true }) l)) ≡ true
unfolding all_words
others = refl

server_kept : (n : Near) (p : Part) (next : CopyState) (sent : CacheSends) → IsCounted p → Serves n p.look next sent
    → Kept (record n { home = true }) p (part_after_row cache_events.FwdGetS 0 next sent p)
server_kept n p next sent counted s =
    let q = part_after_row cache_events.FwdGetS 0 next sent p in
    let count : q.counted ≡ p.counted = counted_on (is_waiting next) (awaits p.look) p.counted s.wait counted.none in
    kept_from (record n { home = true }) p q s.fit (seen_from p q s.seen refl)
    (record { owes = s.owing; due = refl }) s.await
    (wanted_same p q s.await refl) count (λ h. absurd (true≢false (sym h ∙ s.count))) counted

asker_kept : (n : Near) (p : Part) → is_fit n p.look ≡ true → IsCounted p
    → (is_asked n.directory n.home && n.asker) ≡ true
    → Kept (record n { home = true }) p (part_with_data p)
unfolding owes
asker_kept n p fit counted here =
    let e = if_so-at _ _ (each_fit-at _ asker n p.look fit) here in
    let e1 = left _ _ e in
    let e2 = left _ _ e1 in
    let e3 = left _ _ e2 in
    let old : awaits p.look ≡ false = not-at _ (right _ _ e2) in
    let new : awaits (part_with_data p).look ≡ false = not-at _ (right _ _ e1) in
    kept_from (record n { home = true }) p (part_with_data p) (left _ _ e3)
    (seen_from p (part_with_data p) (right _ _ e3) refl)
    (record { owes = refl; due = refl }) (new ∙ sym old) (rw (new, old)) refl
    (λ h. absurd (true≢false (sym h ∙ not-at _ (right _ _ e)))) counted

other_kept : (n : Near) (p : Part) → is_fit n p.look ≡ true → IsCounted p → is_asked n.directory n.home ≡ true
    → n.server ≡ false → n.keeper ≡ false → n.asker ≡ false → Kept (record n { home = true }) p p
other_kept n p fit counted asked not_server not_keeper not_asker =
    let here : (is_asked n.directory n.home && not n.server && not n.keeper && not n.asker) ≡ true =
    rw (asked, not_server, not_keeper, not_asker) in
    kept_from (record n { home = true }) p p (if_so-at _ _ (each_fit-at _ others n p.look fit) here)
    (record { waits = λ h. h; fwd_get_m = λ h. h; fwd_get_s = λ h. h; names = refl })
    (record { owes = refl; due = refl })
    refl refl refl counted.missing counted

-- What is known of the server and the asker.
pub record Pair (line : Line) (roles : Roles) (c r : ℕ) : Type 0 where
  pub asked : is_asked line.directory line.home ≡ true
  pub server : c ≡ roles.server
  pub keeper : c ≡ roles.keeper
  pub asker : r ≡ roles.asker
  pub apart : r ≡ c → ⊥

pub pair : (cores : ℕ) (line : Line) (roles : Roles) (c : ℕ) (next : CopyState) (sent : CacheSends)
    → IsCoherent cores line roles
    → c < cores → IsTrue (stands (line.part c) cache_events.FwdGetS)
    → row_of (line.part c).look.state cache_events.FwdGetS ≡ rows.Go next sent
    → Pair line roles c (line.part c).names
pair cores line roles c next sent coherent within here row =
    let n = near_of line roles c in
    let l = (line.part c).look in
    let e = if_go-at _ (λ next sent. is_asked n.directory n.home && n.server && n.keeper && not n.asker) next sent
    (if_so-at _ _ (each_fit-at _ server_is n l (coherent.fit c within)) here) row in
    let e1 = left _ _ e in
    let e2 = left _ _ e1 in
    let names = (coherent.chained c within).reader (and_parts (not l.inv) (is_fwd_get_s l.forward) here).1 in
    record {
      asked = left _ _ e2;
      server = eqb-true c roles.server (right _ _ e2);
      keeper = eqb-true c roles.keeper (right _ _ e1);
      asker = names;
      apart = λ same. true≢false (sym (eq-eqb c roles.asker (sym same ∙ names)) ∙ not-at _ (right _ _ e));
    }

-- Serving a Fwd-GetS keeps the line coherent.
pub fwd_get_s_kept : (cores : ℕ) (line : Line) (roles : Roles) (c : ℕ) (next : CopyState) (sent : CacheSends)
    → IsCoherent cores line roles → c < cores → IsTrue (stands (line.part c) cache_events.FwdGetS)
    → row_of (line.part c).look.state cache_events.FwdGetS ≡ rows.Go next sent
    → IsCoherent cores (after_turn line c cache_events.FwdGetS next sent) roles
fwd_get_s_kept cores line roles c next sent coherent within here row =
    let n = near_of line roles c in
    let s = serves_from n (line.part c).look next sent
    (if_go-at _ (λ next sent. serves n (line.part c).look next sent) next sent
    (if_so-at _ _ (each_fit-at _ server n (line.part c).look (coherent.fit c within)) here) row) in
    go (pair cores line roles c next sent coherent within here row)
    (server_kept n (line.part c) next sent (coherent.counted c within) s)
    (sends_data sent) (sends_home sent) s.gives s.homes
  where
    r : ℕ
    r = (line.part c).names

    go : Pair line roles c r → Kept (record (near_of line roles c) { home = true }) (line.part c)
        (part_after_row cache_events.FwdGetS 0 next sent (line.part c))
        → (gives homes : Bool) → gives ≡ true → homes ≡ true
        → IsCoherent cores (record line {
          home = homes || line.home;
          part = λ x. change_if (gives && x == r) part_with_data
              (change_if (x == c) (part_after_row cache_events.FwdGetS 0 next sent)
              (line.part x));
        }) roles
    go pair kept false homes e f = absurd (true≢false (sym e))
    go pair kept true false e f = absurd (true≢false (sym f))
    go pair kept true true e f =
        let to : r < cores = subst (λ y. y < cores) (sym pair.asker) coherent.roles_within.asker in
        let asks = asker_kept (near_of line roles r) (line.part r) (coherent.fit r to) (coherent.counted r to)
        (and_from _ _ pair.asked (eq-eqb r roles.asker pair.asker)) in
        lift cores line
        (record line {
          home = true;
          part = λ x. change_if (x == r) part_with_data
              (change_if (x == c) (part_after_row cache_events.FwdGetS 0 next sent) (line.part x));
        })
        roles coherent coherent.entry
        (λ x below. by_places (λ y q. Kept (record (near_of line roles y) { home = true }) (line.part y) q) line.part c
        r
        (part_after_row cache_events.FwdGetS 0 next sent) part_with_data x pair.apart kept asks
        (λ not_c not_r. other_kept (near_of line roles x) (line.part x) (coherent.fit x below)
        (coherent.counted x below) pair.asked
        (ne_eqb x roles.server (λ same. not_c (same ∙ sym pair.server)))
        (ne_eqb x roles.keeper (λ same. not_c (same ∙ sym pair.keeper)))
        (ne_eqb x roles.asker (λ same. not_r (same ∙ sym pair.asker)))))
