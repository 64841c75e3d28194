-- No message comes to the front of its channel without a row.
use Rattle.std.proofs.Common.{◌≡◌, ℕ, ◌+◌, ◌<◌, ◌==◌, ◌&&◌, ◌||◌, Bool, true, false, not, refl, ap, sym, ◌∙◌, subst}
use Rattle.std.proofs.Common.{arith, Option, Some, None, if◌then◌else◌, IsTrue, true≢false, nat_lt, pred}
use Rattle.std.proofs.Math.Bool.{or-true}
use Rattle.std.proofs.lemmas.Bool.{and_from, eq-eqb, eqb-false, eqb-true, ltb-false}
use Rattle.address_map.specs.declared.address.CoreId.{CoreId}
use Rattle.cache_table.specs.Row.{row_of}
use Rattle.cache_table.specs.declared.row.CacheEvent.{CacheEvent}
use Rattle.cache_table.specs.declared.row.CacheEvent.TheVariants as cache_events
use Rattle.directory_table.specs.Law.{is_awaited}
use Rattle.directory_table.specs.Row as Directory
use Rattle.directory_table.specs.declared.state.DirState.{DirState}
use Rattle.directory_table.specs.declared.state.DirState.TheVariants as dir_states
use Rattle.directory_table.specs.declared.row.DirEvent.{DirEvent}
use Rattle.directory_table.specs.declared.row.DirEvent.TheVariants as dir_events
use Rattle.directory_table.specs.declared.row.DirRow.{DirRow}
use Rattle.protocol_coherence.proofs.Answer.{line_at}
use Rattle.protocol_coherence.proofs.Count.{count_below-some}
use Rattle.protocol_coherence.proofs.Data.{AtHand, at_hand}
use Rattle.protocol_coherence.proofs.Each.{all_words, each_fit, each_fit-at, if_so, if_so-at, left, not-at, right}
use Rattle.protocol_coherence.proofs.InvAck.{Pair, pair}
use Rattle.protocol_coherence.proofs.Quiet.{keeper_holds}
use Rattle.protocol_coherence.proofs.Settings.{by_setting}
use Rattle.protocol_coherence.proofs.Samples.{ack_row, ack_sample, data_row, data_sample}
use Rattle.protocol_coherence.specs.Coherent.{IsCoherent, debts, wanted_acks}
use Rattle.protocol_coherence.specs.Fit.{awaits, holder, is_fit, is_fwd_get_m, is_fwd_get_s, is_get_m, is_get_s}
use Rattle.protocol_coherence.specs.Fit.{is_only_data, is_put_ack_first, is_put_s, is_shared_data, owes}
use Rattle.protocol_coherence.specs.Line.{Line, Look, Near, Part, Roles, near_of}
use Rattle.protocol_coherence.specs.LineSteps.{IsWithin, is_asked_for, stands}
use Rattle.protocol_coherence.specs.Promise.{HasRows, is_directory_entry, is_entry, is_message}

-- ---- the caches

has_row_at : CacheEvent → (Look → Bool) → Bool
has_row_at event guard = each_fit (λ n l. if_so (guard l) (λ _. is_entry (row_of l.state event)))

inv : has_row_at cache_events.Inv (λ l. l.inv) ≡ true
unfolding all_words has_row_at
inv = refl

fwd_get_s : has_row_at cache_events.FwdGetS (λ l. not l.inv && is_fwd_get_s l.forward) ≡ true
unfolding all_words has_row_at
fwd_get_s = refl

fwd_get_m : has_row_at cache_events.FwdGetM (λ l. not l.inv && is_fwd_get_m l.forward) ≡ true
unfolding all_words has_row_at
fwd_get_m = refl

put_ack : has_row_at cache_events.PutAck (λ l. is_put_ack_first l) ≡ true
unfolding all_words has_row_at
put_ack = refl

data_e : (loads : Bool) → has_row_at (cache_events.DataE loads) (λ l. is_only_data l.incoming) ≡ true
unfolding all_words has_row_at
data_e true = refl
data_e false = refl

-- Data find a row unless more was counted than is wanted, and even then where nothing is awaited.
data' : (all few : Bool) → has_row_at (data_sample all few) (λ l. is_shared_data l.incoming
    && (all || few || not (awaits l))) ≡ true
unfolding all_words has_row_at
data' true true = refl
data' true false = refl
data' false true = refl
data' false false = refl

ack' : (all few : Bool) → has_row_at (ack_sample all few) (λ l. awaits l && (all || few)) ≡ true
unfolding all_words has_row_at
ack' true true = refl
ack' true false = refl
ack' false true = refl
ack' false false = refl

row_at : (event : CacheEvent) (guard : Look → Bool) → has_row_at event guard ≡ true → (n : Near) (l : Look)
    → is_fit n l ≡ true
    → guard l ≡ true → is_entry (row_of l.state event) ≡ true
unfolding has_row_at
row_at event guard tested n l fit here = if_so-at _ _ (each_fit-at _ tested n l fit) here

awaits_holds : each_fit (λ n l. if_so (awaits l) (λ _. holder l)) ≡ true
unfolding all_words
awaits_holds = refl

-- No more is counted than is wanted.
counted_most : (cores : ℕ) (line : Line) (roles : Roles) (c : ℕ) → IsCoherent cores line roles → c < cores
    → awaits (line.part c).look ≡ true → debts cores line.part + (line.part c).counted ≡ (line.part c).wants
counted_most cores line roles c coherent within await =
    let holds = if_so-at _ _ (each_fit-at _ awaits_holds (near_of line roles c) (line.part c).look
    (coherent.fit c within)) await in
    let keeper = keeper_holds cores line roles c coherent within holds in
    subst (λ y. debts cores line.part + (line.part y).counted ≡ wanted_acks (line.part y)) (sym keeper)
    coherent.balanced.sum
    ∙ ap (λ b. if b then (line.part c).wants else 0) await

enough : (k n debt : ℕ) (all few : Bool) → (k == n) ≡ all → nat_lt k n ≡ few → debt + k ≡ n → (all || few) ≡ true
enough k n debt true few e f sum = refl
enough k n debt false true e f sum = refl
enough k n debt false false e f sum =
    let other = eqb-false k n e in
    let least = ltb-false k n f in
    absurd (other (omega arith))

data_has_row : (cores : ℕ) (line : Line) (roles : Roles) (c n k : ℕ) → IsCoherent cores line roles → c < cores
    → AtHand (line.part c) n k → is_entry (row_of (line.part c).look.state (cache_events.Data n k)) ≡ true
data_has_row cores line roles c n k coherent within hand = go (awaits (line.part c).look) refl
  where
    p : Part
    p = line.part c

    all : Bool
    all = k == n

    few : Bool
    few = nat_lt k n

    row : (all || few || not (awaits (line.part c).look)) ≡ true
        → is_entry (row_of (line.part c).look.state (cache_events.Data n k)) ≡ true
    row here = ap is_entry (data_row p.look.state n k all few refl refl)
        ∙ row_at (data_sample all few) (λ l. is_shared_data l.incoming && (all || few || not (awaits l)))
        (data' all few) (near_of line roles c) p.look
        (coherent.fit c within) (and_from (is_shared_data p.look.incoming)
        (all || few || not (awaits p.look)) hand.incoming here)

    go : (b : Bool) → awaits (line.part c).look ≡ b → is_entry
        (row_of (line.part c).look.state (cache_events.Data n k)) ≡ true
    go true e =
        let sum = counted_most cores line roles c coherent within e in
        let most : (all || few) ≡ true = enough k n (debts cores line.part) all few refl refl
        (omega (arith, sum, hand.wants, hand.counts)) in
        row (ap (λ b. b || not (awaits p.look)) most)
    go false e = row (ap (λ b. all || few || not b) e ∙ or-true (all || few))

ack_has_row : (cores : ℕ) (line : Line) (roles : Roles) (c d : ℕ) → IsCoherent cores line roles → c < cores → d < cores
    → Pair cores line roles c d
    → is_entry (row_of (line.part c).look.state (cache_events.InvAck (line.part c).wants (line.part c).counted)) ≡ true
ack_has_row cores line roles c d coherent within below pair =
    let p = line.part c in
    let all = p.counted + 1 == p.wants in
    let few = nat_lt (p.counted + 1) p.wants in
    let sum = counted_most cores line roles c coherent within pair.await in
    let some = count_below-some cores (λ x. owes (line.part x).look) d below pair.owing in
    let most : (all || few) ≡ true = enough (p.counted + 1) p.wants (pred (debts cores line.part)) all few refl refl
    (omega (arith, sum, some)) in
    ap is_entry (ack_row p.look.state p.wants p.counted all few refl refl)
    ∙ row_at (ack_sample all few) (λ l. awaits l && (all || few)) (ack' all few) (near_of line roles c) p.look
    (coherent.fit c within) (and_from (awaits p.look) (all || few) pair.await most)

turn_has_row : (cores : ℕ) (line : Line) (roles : Roles) (c : ℕ) (event : CacheEvent) → IsCoherent cores line roles
    → c < cores
    → IsTrue (is_message event) → IsTrue (stands (line.part c) event)
    → IsTrue (is_entry (row_of (line.part c).look.state event))
turn_has_row cores line roles c cache_events.Load coherent within message here = absurd (true≢false (sym message))
turn_has_row cores line roles c cache_events.Write coherent within message here = absurd (true≢false (sym message))
turn_has_row cores line roles c cache_events.Eviction coherent within message here = absurd (true≢false (sym message))
turn_has_row cores line roles c (cache_events.InvAck n k) coherent within message here = absurd (true≢false (sym here))
turn_has_row cores line roles c cache_events.Inv coherent within message here =
    row_at cache_events.Inv (λ l. l.inv) inv (near_of line roles c) (line.part c).look (coherent.fit c within) here
turn_has_row cores line roles c cache_events.FwdGetS coherent within message here =
    row_at cache_events.FwdGetS (λ l. not l.inv && is_fwd_get_s l.forward) fwd_get_s (near_of line roles c)
    (line.part c).look (coherent.fit c within) here
turn_has_row cores line roles c cache_events.FwdGetM coherent within message here =
    row_at cache_events.FwdGetM (λ l. not l.inv && is_fwd_get_m l.forward) fwd_get_m (near_of line roles c)
    (line.part c).look (coherent.fit c within) here
turn_has_row cores line roles c cache_events.PutAck coherent within message here =
    row_at cache_events.PutAck (λ l. is_put_ack_first l) put_ack (near_of line roles c) (line.part c).look
    (coherent.fit c within) here
turn_has_row cores line roles c (cache_events.DataE loads) coherent within message here =
    row_at (cache_events.DataE loads) (λ l. is_only_data l.incoming) (data_e loads) (near_of line roles c)
    (line.part c).look
    (coherent.fit c within) here
turn_has_row cores line roles c (cache_events.Data n k) coherent within message here =
    data_has_row cores line roles c n k coherent within (at_hand (line.part c) n k here)

-- ---- the directory

home_awaited : each_fit (λ n l. if_so n.home (λ _. is_awaited n.directory)) ≡ true
unfolding all_words
home_awaited = refl

-- The owner asks for nothing, and leaves by PutM.
owner_asks : each_fit (λ n l. if_so n.owner (λ _. not (is_get_s l.request) && not (is_get_m l.request)
    && not (is_put_s l.request))) ≡ true
unfolding all_words
owner_asks = refl

record OwnerAsks (l : Look) : Type 0 where
  get_s : is_get_s l.request ≡ false
  get_m : is_get_m l.request ≡ false
  put_s : is_put_s l.request ≡ false

owner_asks_at : (n : Near) (l : Look) → is_fit n l ≡ true → n.owner ≡ true → OwnerAsks l
owner_asks_at n l fit owns =
    let e = if_so-at _ _ (each_fit-at _ owner_asks n l fit) owns in
    let e1 = left _ _ e in
    record { get_s = not-at _ (left _ _ e1); get_m = not-at _ (right _ _ e1); put_s = not-at _ (right _ _ e) }

no_own : (b : Bool) (own other : DirRow) → (b ≡ true → ⊥) → is_directory_entry other ≡ true
    → is_directory_entry (if b then own else other) ≡ true
no_own true own other none entry = absurd (none refl)
no_own false own other none entry = entry

entry_if : (b : Bool) (t f : DirRow) → is_directory_entry t ≡ true → is_directory_entry f ≡ true
    → is_directory_entry (if b then t else f) ≡ true
entry_if true t f e g = e
entry_if false t f e g = g

awaited : (cores : ℕ) (roles : Roles) (directory : DirState) (owner : Option CoreId) (s : ℕ) (home : Bool)
    (part : ℕ → Part)
    → IsCoherent cores (line_at directory owner s home part) roles → 0 < cores → home ≡ true
    → is_awaited directory ≡ true
awaited cores roles directory owner s home part coherent some comes =
    if_so-at _ _ (each_fit-at _ home_awaited (near_of (line_at directory owner s home part) roles 0) (part 0).look
    (coherent.fit 0 some)) comes

owner_is : (cores : ℕ) (roles : Roles) (owner core : CoreId) (s : ℕ) (home : Bool) (part : ℕ → Part)
    → IsCoherent cores (line_at dir_states.M (Some owner) s home part) roles → core.0 < cores → (owner.0 == core.0)
    ≡ true
    → OwnerAsks (part core.0).look
owner_is cores roles owner core s home part coherent within own =
    owner_asks_at (near_of (line_at dir_states.M (Some owner) s home part) roles core.0) (part core.0).look
    (coherent.fit core.0 within)
    (eq-eqb core.0 owner.0 (sym (eqb-true owner.0 core.0 own)))

-- Each row with the exclusive state is there. The last line covers each cell that is left.
row_on : (cores : ℕ) (roles : Roles) (directory : DirState) (owner : Option CoreId) (s : ℕ) (home : Bool)
    (part : ℕ → Part) (event : DirEvent) → IsCoherent cores (line_at directory owner s home part) roles
    → 0 < cores → IsWithin cores event → IsTrue (is_asked_for (line_at directory owner s home part) event)
    → is_directory_entry (Directory.cell true directory owner s event) ≡ true
row_on cores roles dir_states.M None s home part event coherent some within wants = absurd
    (true≢false (sym coherent.entry.in_m))
row_on cores roles dir_states.M (Some owner) s home part (dir_events.GetS core) coherent some within wants =
    no_own (owner.0 == core.0) _ _ (λ own. true≢false (sym wants
    ∙ (owner_is cores roles owner core s home part coherent within own).get_s)) refl
row_on cores roles dir_states.M (Some owner) s home part (dir_events.GetM core) coherent some within wants =
    no_own (owner.0 == core.0) _ _ (λ own. true≢false (sym wants
    ∙ (owner_is cores roles owner core s home part coherent within own).get_m)) refl
row_on cores roles dir_states.M (Some owner) s home part (dir_events.PutS core) coherent some within wants =
    no_own (owner.0 == core.0) _ _ (λ own. true≢false (sym wants
    ∙ (owner_is cores roles owner core s home part coherent within own).put_s)) refl
row_on cores roles dir_states.M (Some owner) s home part (dir_events.PutM core) coherent some within wants = entry_if
    (owner.0 == core.0) _ _ refl refl
row_on cores roles dir_states.S_D owner s home part dir_events.DataHome coherent some within wants = refl
row_on cores roles directory owner s home part dir_events.DataHome coherent some within wants =
    absurd (true≢false (sym (awaited cores roles directory owner s home part coherent some wants)))
row_on cores roles _ owner s home part _ coherent some within wants = refl

serve_has_row : (exclusive : Bool) (cores : ℕ) (roles : Roles) (line : Line) (event : DirEvent)
    → IsCoherent cores line roles → 0 < cores
    → IsWithin cores event → IsTrue (is_asked_for line event)
    → is_directory_entry (Directory.cell exclusive line.directory line.owner line.sharers event) ≡ true
serve_has_row exclusive cores roles line event coherent some within wants =
    by_setting (λ directory owner event row. IsCoherent cores
    (line_at directory owner line.sharers line.home line.part) roles
    → IsWithin cores event → IsTrue (is_asked_for (line_at directory owner line.sharers line.home line.part) event)
    → is_directory_entry row ≡ true)
    line.sharers
    (λ directory owner event coherent within wants. row_on cores roles directory owner line.sharers line.home line.part
    event coherent some within wants)
    (λ owner core coherent within wants. refl)
    exclusive line.directory line.owner event coherent within wants

sent_owes : (l : Look) → l.sent ≡ true → owes l ≡ true
unfolding owes
sent_owes l sent = ap (λ b. l.inv || b) sent ∙ or-true l.inv

-- Each message has a row.
pub has_rows : (exclusive : Bool) (cores : ℕ) (line : Line) (roles : Roles) → 0 < cores → IsCoherent cores line roles
    → HasRows exclusive cores line
has_rows exclusive cores line roles some coherent = record {
  turn = λ c event within message here. turn_has_row cores line roles c event coherent within message here;
  ack = λ c d within below here. ack_has_row cores line roles c d coherent within below
      (pair cores line roles c d coherent within below here);
  ack_for_core = λ d below sent. subst (λ y. y < cores) (sym (coherent.balanced.due d below
      (sent_owes (line.part d).look sent))) coherent.roles_within.keeper;
  serve = λ event home within wants. serve_has_row exclusive cores roles line event coherent some within wants;
}
