-- Taking an Inv-Ack moves no block, and no core claims a new one.
use Rattle.std.proofs.Common.{◌≡◌, ℕ, ◌+◌, ◌<◌, ◌==◌, ◌&&◌, Bool, true, false, refl, ap, sym, ◌∙◌, IsTrue, nat_lt}
use Rattle.address_map.specs.declared.block.Block.{Block}
use Rattle.cache_table.specs.Row.{row_of}
use Rattle.cache_table.specs.declared.row.CacheEvent.TheVariants as cache_events
use Rattle.cache_table.specs.declared.row.CacheSends.{CacheSends}
use Rattle.cache_table.specs.declared.row.Row.TheVariants as rows
use Rattle.cache_table.specs.declared.state.CopyState.{CopyState}
use Rattle.protocol_coherence.proofs.Each.{all_words, each_fit, each_fit-at, if_go, if_go-at, if_so, if_so-at}
use Rattle.protocol_coherence.proofs.Each.{implies-at, left, right}
use Rattle.protocol_coherence.proofs.Frame.{by_places}
use Rattle.protocol_coherence.proofs.InvAck.{pair}
use Rattle.protocol_coherence.proofs.Samples.{ack_row, ack_sample}
use Rattle.protocol_coherence.specs.Coherent.{IsCoherent}
use Rattle.protocol_coherence.specs.Fit.{◌implies◌, awaits, is_no_data, is_put_ack_first, is_put_m}
use Rattle.protocol_coherence.specs.Line.{Line, Look, Part, Roles, near_of}
use Rattle.protocol_coherence.specs.LineSteps.{part_after_ack, part_after_row, after_ack, stands_ack, look_after_row}
use Rattle.protocol_coherence.specs.Values.{Blocks, IsCurrent, has_newest}

unfoldable claims_less : Look → CopyState → CacheSends → Bool
claims_less l next sent =
    (has_newest (look_after_row (cache_events.InvAck 0 0) next sent l) implies has_newest l)
    && (is_put_m (look_after_row (cache_events.InvAck 0 0) next sent l).request implies is_put_m l.request)

counts : (all few : Bool) → each_fit (λ n l. if_so (awaits l)
    (λ _. if_go (row_of l.state (ack_sample all few)) (λ next sent. claims_less l next sent))) ≡ true
unfolding all_words claims_less has_newest
counts true true = refl
counts true false = refl
counts false true = refl
counts false false = refl

-- A core claims no block that it didn't.
record Less (p q : Part) : Type 0 where
  copy : has_newest q.look ≡ true → has_newest p.look ≡ true
  arriving : q.look.incoming ≡ p.look.incoming
  put : is_put_m q.look.request ≡ true → is_put_m p.look.request ≡ true

sender : (p : Part) → Less p (part_after_ack p)
unfolding has_newest is_put_ack_first
sender p = record { copy = λ h. h; arriving = refl; put = λ h. h }

-- Taking an Inv-Ack keeps the blocks current.
pub ack_current : (cores : ℕ) (line : Line) (roles : Roles) (c d : ℕ) (next : CopyState) (sent : CacheSends)
    (blocks : Blocks) (newest : Block)
    → IsCoherent cores line roles → c < cores → d < cores → IsTrue (stands_ack (line.part d) c)
    → row_of (line.part c).look.state (cache_events.InvAck (line.part c).wants (line.part c).counted)
    ≡ rows.Go next sent
    → IsCurrent cores line blocks newest → IsCurrent cores (after_ack line c d next sent) blocks newest
unfolding claims_less
ack_current cores line roles c d next sent blocks newest coherent within below here row current =
    let p = line.part c in
    let pair = pair cores line roles c d coherent within below here in
    let all = p.counted + 1 == p.wants in
    let few = nat_lt (p.counted + 1) p.wants in
    let e = if_go-at _ (λ next sent. claims_less p.look next sent) next sent
    (if_so-at _ _ (each_fit-at _ (counts all few) (near_of line roles c) p.look (coherent.fit c within)) pair.await)
    (sym (ack_row p.look.state p.wants p.counted all few refl refl) ∙ row) in
    let taker : Less p (part_after_row (cache_events.InvAck 0 0) 1 next sent p) =
    record { copy = implies-at _ _ (left _ _ e); arriving = refl; put = implies-at _ _ (right _ _ e) } in
    let one : (x : ℕ) → Less (line.part x) ((after_ack line c d next sent).part x) = λ x.
    by_places (λ y q. Less (line.part y) q) line.part c d (part_after_row (cache_events.InvAck 0 0) 1 next sent)
    part_after_ack x
    pair.apart taker
    (sender (line.part d)) (λ not_c not_d. record { copy = λ h. h; arriving = refl; put = λ h. h }) in
    record {
      copy = λ x less h. current.copy x less ((one x).copy h);
      arriving = λ x less h. current.arriving x less (sym (ap is_no_data (one x).arriving) ∙ h);
      put = λ x less owns h. current.put x less owns ((one x).put h);
      home = current.home;
      mail = current.mail;
    }
