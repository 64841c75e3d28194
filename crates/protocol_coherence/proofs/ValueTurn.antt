-- A core's turn that performs no write leaves each block that is claimed to be the newest as the newest.
use Rattle.std.proofs.Common.{◌≡◌, ℕ, ◌<◌, ◌==◌, ◌&&◌, ◌||◌, Bool, true, false, not, refl, ap, sym, ◌∙◌, subst}
use Rattle.std.proofs.Common.{if◌then◌else◌, IsTrue, true≢false, nat_lt}
use Rattle.std.proofs.Math.Bool.{or-false}
use Rattle.directory_table.specs.Law.{is_named}
use Rattle.std.proofs.lemmas.Bool.{and_parts, eqb-true}
use Rattle.address_map.specs.declared.block.Block.{Block}
use Rattle.cache_table.specs.Law.{brings_data, sends_data, sends_home, sends_put_m}
use Rattle.cache_table.specs.Row.{row_of}
use Rattle.cache_table.specs.declared.row.CacheEvent.{CacheEvent}
use Rattle.cache_table.specs.declared.row.CacheEvent.TheVariants as cache_events
use Rattle.cache_table.specs.declared.row.CacheSends.{CacheSends}
use Rattle.cache_table.specs.declared.row.Row.TheVariants as rows
use Rattle.cache_table.specs.declared.state.CopyState.{CopyState}
use Rattle.protocol_coherence.proofs.Data.{at_hand}
use Rattle.protocol_coherence.proofs.Each.{all_words, each_fit, each_fit-at, if_go, if_go-at, if_so, if_so-at}
use Rattle.protocol_coherence.proofs.Each.{implies-at, left, not-at, right}
use Rattle.protocol_coherence.proofs.Samples.{data_row, data_sample}
use Rattle.protocol_coherence.specs.Coherent.{IsCoherent}
use Rattle.protocol_coherence.specs.Fit.{◌implies◌, is_fwd_get_m, is_fwd_get_s, is_no_data, is_only_data}
use Rattle.protocol_coherence.specs.Fit.{is_put_ack_first, is_put_m, is_shared_data}
use Rattle.protocol_coherence.specs.Line.{Line, Look, Part, Roles, near_of}
use Rattle.protocol_coherence.specs.LineSteps.{part_after_row, after_turn, change_if, part_with_data, stands}
use Rattle.protocol_coherence.specs.LineSteps.{look_after_row}
use Rattle.protocol_coherence.specs.Values.{Blocks, IsCurrent, has_newest}

-- ---- the rows

-- The copy that has the newest block afterwards had it, or the data bring it; and who sends a block had it.
unfoldable moves : CacheEvent → Look → CopyState → CacheSends → Bool
moves event l next sent =
    (has_newest (look_after_row event next sent l) implies (brings_data event || has_newest l))
    && (sends_data sent implies has_newest l)
    && (sends_home sent implies has_newest l)
    && (sends_put_m sent implies has_newest l)
    && (is_put_m (look_after_row event next sent l).request implies (is_put_m l.request || sends_put_m sent))
    && (not (is_no_data (look_after_row event next sent l).incoming) implies not (is_no_data l.incoming))
    && (brings_data event implies not (is_no_data l.incoming))

unfoldable moves_at : CacheEvent → (Look → Bool) → Bool
moves_at event guard = each_fit (λ n l. if_so (guard l) (λ _. if_go (row_of l.state event)
    (λ next sent. moves event l next sent)))

load : moves_at cache_events.Load (λ l. true) ≡ true
unfolding all_words moves_at moves has_newest
load = refl

write : moves_at cache_events.Write (λ l. true) ≡ true
unfolding all_words moves_at moves has_newest
write = refl

eviction : moves_at cache_events.Eviction (λ l. true) ≡ true
unfolding all_words moves_at moves has_newest
eviction = refl

inv : moves_at cache_events.Inv (λ l. l.inv) ≡ true
unfolding all_words moves_at moves has_newest
inv = refl

fwd_get_s : moves_at cache_events.FwdGetS (λ l. not l.inv && is_fwd_get_s l.forward) ≡ true
unfolding all_words moves_at moves has_newest
fwd_get_s = refl

fwd_get_m : moves_at cache_events.FwdGetM (λ l. not l.inv && is_fwd_get_m l.forward) ≡ true
unfolding all_words moves_at moves has_newest
fwd_get_m = refl

put_ack : moves_at cache_events.PutAck (λ l. is_put_ack_first l) ≡ true
unfolding all_words moves_at moves has_newest
put_ack = refl

data_e : (loads : Bool) → moves_at (cache_events.DataE loads) (λ l. is_only_data l.incoming) ≡ true
unfolding all_words moves_at moves has_newest
data_e true = refl
data_e false = refl

data' : (all few : Bool) → moves_at (data_sample all few) (λ l. is_shared_data l.incoming) ≡ true
unfolding all_words moves_at moves has_newest
data' true true = refl
data' true false = refl
data' false true = refl
data' false false = refl

-- What is known of the row.
record Moves (event : CacheEvent) (l : Look) (next : CopyState) (sent : CacheSends) : Type 0 where
  copy : has_newest (look_after_row event next sent l) ≡ true → (brings_data event || has_newest l) ≡ true
  gives : sends_data sent ≡ true → has_newest l ≡ true
  homes : sends_home sent ≡ true → has_newest l ≡ true
  puts : sends_put_m sent ≡ true → has_newest l ≡ true
  put : is_put_m (look_after_row event next sent l).request ≡ true → (is_put_m l.request || sends_put_m sent) ≡ true
  waits : is_no_data (look_after_row event next sent l).incoming ≡ false → is_no_data l.incoming ≡ false
  data_there : brings_data event ≡ true → is_no_data l.incoming ≡ false

moves_from : (event : CacheEvent) (l : Look) (next : CopyState) (sent : CacheSends) → moves event l next sent ≡ true
    → Moves event l next sent
unfolding moves
moves_from event l next sent e =
    let e1 = left _ _ e in
    let e2 = left _ _ e1 in
    let e3 = left _ _ e2 in
    let e4 = left _ _ e3 in
    let e5 = left _ _ e4 in
    record {
      copy = implies-at _ _ (left _ _ e5);
      gives = implies-at _ _ (right _ _ e5);
      homes = implies-at _ _ (right _ _ e4);
      puts = implies-at _ _ (right _ _ e3);
      put = implies-at _ _ (right _ _ e2);
      waits = λ h. not-at _ (implies-at _ _ (right _ _ e1) (ap not h));
      data_there = λ h. not-at _ (implies-at _ _ (right _ _ e) h);
    }

known : (cores : ℕ) (line : Line) (roles : Roles) (c : ℕ) (event : CacheEvent) (guard : Look → Bool) (next : CopyState)
    (sent : CacheSends)
    → moves_at event guard ≡ true → IsCoherent cores line roles → c < cores → guard (line.part c).look ≡ true
    → row_of (line.part c).look.state event ≡ rows.Go next sent → Moves event (line.part c).look next sent
unfolding moves_at
known cores line roles c event guard next sent tested coherent within here row =
    let l = (line.part c).look in
    moves_from event l next sent
    (if_go-at _ (λ next sent. moves event l next sent) next sent
    (if_so-at _ _ (each_fit-at _ tested (near_of line roles c) l (coherent.fit c within)) here) row)

-- The numbers of Data make no difference to the blocks.
any_data : (n k m j : ℕ) (l : Look) (next : CopyState) (sent : CacheSends) → Moves (cache_events.Data m j) l next sent
    → Moves (cache_events.Data n k) l next sent
any_data n k m j l next sent moves = record {
  copy = moves.copy;
  gives = moves.gives;
  homes = moves.homes;
  puts = moves.puts;
  put = moves.put;
  waits = moves.waits;
  data_there = moves.data_there;
}

known_turn : (cores : ℕ) (line : Line) (roles : Roles) (c : ℕ) (event : CacheEvent) (next : CopyState)
    (sent : CacheSends)
    → IsCoherent cores line roles → c < cores → IsTrue (stands (line.part c) event)
    → row_of (line.part c).look.state event ≡ rows.Go next sent → Moves event (line.part c).look next sent
known_turn cores line roles c cache_events.Load next sent coherent within here row =
    known cores line roles c cache_events.Load (λ l. true) next sent load coherent within refl row
known_turn cores line roles c cache_events.Write next sent coherent within here row =
    known cores line roles c cache_events.Write (λ l. true) next sent write coherent within refl row
known_turn cores line roles c cache_events.Eviction next sent coherent within here row =
    known cores line roles c cache_events.Eviction (λ l. true) next sent eviction coherent within refl row
known_turn cores line roles c cache_events.Inv next sent coherent within here row =
    known cores line roles c cache_events.Inv (λ l. l.inv) next sent inv coherent within here row
known_turn cores line roles c cache_events.FwdGetS next sent coherent within here row =
    known cores line roles c cache_events.FwdGetS (λ l. not l.inv && is_fwd_get_s l.forward) next sent fwd_get_s
    coherent
    within here row
known_turn cores line roles c cache_events.FwdGetM next sent coherent within here row =
    known cores line roles c cache_events.FwdGetM (λ l. not l.inv && is_fwd_get_m l.forward) next sent fwd_get_m
    coherent
    within here row
known_turn cores line roles c cache_events.PutAck next sent coherent within here row =
    known cores line roles c cache_events.PutAck (λ l. is_put_ack_first l) next sent put_ack coherent within here row
known_turn cores line roles c (cache_events.DataE loads) next sent coherent within here row =
    known cores line roles c (cache_events.DataE loads) (λ l. is_only_data l.incoming) next sent
    (data_e loads) coherent within here row
known_turn cores line roles c (cache_events.InvAck n k) next sent coherent within here row =
    absurd (true≢false (sym here))
known_turn cores line roles c (cache_events.Data n k) next sent coherent within here row =
    go (k == n) (nat_lt k n) refl refl (at_hand (line.part c) n k here).incoming
  where
    l : Look
    l = (line.part c).look

    go : (all few : Bool) → (k == n) ≡ all → nat_lt k n ≡ few → is_shared_data l.incoming ≡ true
        → Moves (cache_events.Data n k) l next sent
    go true few e f waits = any_data n k 0 0 l next sent
        (known cores line roles c (cache_events.Data 0 0) (λ l. is_shared_data l.incoming) next sent
        (data' true true) coherent within waits
        (sym (data_row l.state n k true few e f) ∙ row))
    go false true e f waits = any_data n k 1 0 l next sent
        (known cores line roles c (cache_events.Data 1 0) (λ l. is_shared_data l.incoming) next sent
        (data' false true) coherent within waits
        (sym (data_row l.state n k false true e f) ∙ row))
    go false false e f waits = any_data n k 0 1 l next sent
        (known cores line roles c (cache_events.Data 0 1) (λ l. is_shared_data l.incoming) next sent
        (data' false false) coherent within waits
        (sym (data_row l.state n k false false e f) ∙ row))

-- ---- the blocks

given_newest : (b : Bool) (p : Part) → has_newest (change_if b part_with_data p).look ≡ has_newest p.look
unfolding has_newest is_put_ack_first
given_newest true p = refl
given_newest false p = refl

given_request : (b : Bool) (p : Part) → (change_if b part_with_data p).look.request ≡ p.look.request
given_request true p = refl
given_request false p = refl

-- The blocks after the turn, where a write is performed or not.
abbrev pub turned_blocks : Line → ℕ → CacheEvent → CacheSends → Bool → Block → Blocks → Blocks
turned_blocks line c event sent performed written blocks = record {
  copy = λ x. if x == c then (if performed then written else if brings_data event then blocks.arriving
      c else blocks.copy c) else blocks.copy x;
  arriving = λ x. if sends_data sent && x == (line.part c).names then blocks.copy c else blocks.arriving x;
  put = λ x. if sends_put_m sent && x == c then blocks.copy c else blocks.put x;
  home = blocks.home;
  mail = if sends_home sent then blocks.copy c else blocks.mail;
}

record Turn (cores : ℕ) (line : Line) (c : ℕ) (event : CacheEvent) (next : CopyState) (sent : CacheSends)
    (blocks : Blocks) (newest : Block) : Type 0 where
  within : c < cores
  moves : Moves event (line.part c).look next sent
  current : IsCurrent cores line blocks newest

copy_at : (cores : ℕ) (line : Line) (c : ℕ) (event : CacheEvent) (next : CopyState) (sent : CacheSends)
    (blocks : Blocks) (newest : Block) (x : ℕ)
    → Turn cores line c event next sent blocks newest → x < cores → (t : Bool) → (x == c) ≡ t
    → has_newest (change_if t (part_after_row event 0 next sent) (line.part x)).look ≡ true
    → (if t then (if brings_data event then blocks.arriving c else blocks.copy c) else blocks.copy x) ≡ newest
copy_at cores line c event next sent blocks newest x turn below false e h = turn.current.copy x below h
copy_at cores line c event next sent blocks newest x turn below true e h =
    let here = subst (λ y. has_newest (part_after_row event 0 next sent (line.part y)).look ≡ true) (eqb-true x c e) h
    in
    go (brings_data event) refl (turn.moves.copy here)
  where
    go : (b : Bool) → brings_data event ≡ b → (b || has_newest (line.part c).look) ≡ true
        → (if b then blocks.arriving c else blocks.copy c) ≡ newest
    go true f k = turn.current.arriving c turn.within (turn.moves.data_there f)
    go false f k = turn.current.copy c turn.within k

arriving_at : (cores : ℕ) (line : Line) (c : ℕ) (event : CacheEvent) (next : CopyState) (sent : CacheSends)
    (blocks : Blocks) (newest : Block) (x : ℕ)
    → Turn cores line c event next sent blocks newest → x < cores → (t : Bool) → (x == c) ≡ t
    → is_no_data (change_if t (part_after_row event 0 next sent) (line.part x)).look.incoming ≡ false
    → blocks.arriving x ≡ newest
arriving_at cores line c event next sent blocks newest x turn below false e h = turn.current.arriving x below h
arriving_at cores line c event next sent blocks newest x turn below true e h =
    let at : x ≡ c = eqb-true x c e in
    let here = subst (λ y. is_no_data (part_after_row event 0 next sent (line.part y)).look.incoming ≡ false) at h in
    subst (λ y. blocks.arriving y ≡ newest) (sym at) (turn.current.arriving c turn.within (turn.moves.waits here))

put_at : (cores : ℕ) (line : Line) (c : ℕ) (event : CacheEvent) (next : CopyState) (sent : CacheSends)
    (blocks : Blocks) (newest : Block) (x : ℕ)
    → Turn cores line c event next sent blocks newest → x < cores → IsTrue (is_named line.owner x) → (t : Bool)
    → (x == c) ≡ t
    → (b : Bool) → sends_put_m sent ≡ b →
    is_put_m (change_if t (part_after_row event 0 next sent) (line.part x)).look.request
    ≡ true
    → (if b && t then blocks.copy c else blocks.put x) ≡ newest
put_at cores line c event next sent blocks newest x turn below owns false e true f h = turn.current.put x below owns h
put_at cores line c event next sent blocks newest x turn below owns false e false f h = turn.current.put x below owns h
put_at cores line c event next sent blocks newest x turn below owns true e true f h = turn.current.copy c turn.within
    (turn.moves.puts f)
put_at cores line c event next sent blocks newest x turn below owns true e false f h =
    let at : x ≡ c = eqb-true x c e in
    let here = subst (λ y. is_put_m (part_after_row event 0 next sent (line.part y)).look.request ≡ true) at h in
    let was : (is_put_m (line.part c).look.request || false) ≡ true = ap
    (λ b. is_put_m (line.part c).look.request || b) (sym f) ∙ turn.moves.put here in
    let old : is_put_m (line.part c).look.request ≡ true = sym (or-false (is_put_m (line.part c).look.request)) ∙ was in
    subst (λ y. blocks.put y ≡ newest) (sym at)
    (turn.current.put c turn.within (subst (λ y. IsTrue (is_named line.owner y)) at owns) old)

turn_blocks : (cores : ℕ) (line : Line) (c : ℕ) (event : CacheEvent) (next : CopyState) (sent : CacheSends)
    (blocks : Blocks) (written newest : Block)
    → Turn cores line c event next sent blocks newest
    → IsCurrent cores (after_turn line c event next sent) (turned_blocks line c event sent false written blocks) newest
turn_blocks cores line c event next sent blocks written newest turn = record {
  copy = λ x below h. copy_at cores line c event next sent blocks newest x turn below (x == c) refl
      (sym (given_newest (sends_data sent && x == r)
      (change_if (x == c) (part_after_row event 0 next sent) (line.part x))) ∙ h);
  arriving = λ x below h. arrives x below (sends_data sent && x == r) refl h;
  put = λ x below owns h. put_at cores line c event next sent blocks newest x turn below owns (x == c) refl
      (sends_put_m sent) refl
      (sym (ap is_put_m (given_request (sends_data sent && x == r)
      (change_if (x == c) (part_after_row event 0 next sent) (line.part x)))) ∙ h);
  home = turn.current.home;
  mail = mail (sends_home sent) refl;
}
  where
    r : ℕ
    r = (line.part c).names

    arrives : (x : ℕ) → x < cores → (b : Bool) → (sends_data sent && x == r) ≡ b
        → is_no_data (change_if b part_with_data
        (change_if (x == c) (part_after_row event 0 next sent) (line.part x))).look.incoming
        ≡ false
        → (if b then blocks.copy c else blocks.arriving x) ≡ newest
    arrives x below true e h = turn.current.copy c turn.within
        (turn.moves.gives (and_parts (sends_data sent) (x == r) e).0)
    arrives x below false e h = arriving_at cores line c event next sent blocks newest x turn below (x == c) refl h

    mail : (b : Bool) → sends_home sent ≡ b → (b || line.home) ≡ true
        → (if b then blocks.copy c else blocks.mail) ≡ newest
    mail true e h = turn.current.copy c turn.within (turn.moves.homes e)
    mail false e h = turn.current.mail h

-- A turn without a write keeps the blocks current.
pub turn_current : (cores : ℕ) (line : Line) (roles : Roles) (c : ℕ) (event : CacheEvent) (next : CopyState)
    (sent : CacheSends)
    (blocks : Blocks) (written newest : Block) → IsCoherent cores line roles → c < cores
    → IsTrue (stands (line.part c) event)
    → row_of (line.part c).look.state event ≡ rows.Go next sent → IsCurrent cores line blocks newest
    → IsCurrent cores (after_turn line c event next sent) (turned_blocks line c event sent false written blocks) newest
turn_current cores line roles c event next sent blocks written newest coherent within here row current =
    turn_blocks cores line c event next sent blocks written newest (record {
      within = within;
      moves = known_turn cores line roles c event next sent coherent within here row;
      current = current;
    })
