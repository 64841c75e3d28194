-- Each row finds room in the channels that it sends to.
use Rattle.std.proofs.Common.{◌≡◌, ℕ, ◌+◌, ◌<◌, ◌≤◌, ◌==◌, ◌&&◌, ◌||◌, Bool, true, false, not, refl, ap, sym, ◌∙◌}
use Rattle.std.proofs.Common.{subst, arith, Option, Some, None, IfSome, IsTrue, true≢false, nat_lt}
use Rattle.std.proofs.Math.Bool.{or-true}
use Rattle.std.proofs.lemmas.Bool.{and_from, and_parts, cond_both, eq-eqb}
use Rattle.address_map.specs.declared.address.CoreId.{CoreId}
use Rattle.address_map.specs.CoreSet.{has, without}
use Rattle.cache_table.specs.Law.{sends_data, sends_get, sends_home, sends_inv_ack, sends_put}
use Rattle.cache_table.specs.Row.{row_of}
use Rattle.cache_table.specs.declared.row.CacheEvent.{CacheEvent}
use Rattle.cache_table.specs.declared.row.CacheEvent.TheVariants as cache_events
use Rattle.cache_table.specs.declared.row.CacheSends.{CacheSends}
use Rattle.cache_table.specs.declared.row.CacheSends.TheVariants as cache_sends
use Rattle.cache_table.specs.declared.row.Row.TheVariants as rows
use Rattle.cache_table.specs.declared.state.CopyState.{CopyState}
use Rattle.directory_table.specs.Law as Law
use Rattle.directory_table.specs.Law.{IfGo, is_shared}
use Rattle.directory_table.specs.Row as Directory
use Rattle.directory_table.specs.declared.state.DirState.{DirState}
use Rattle.directory_table.specs.declared.state.DirState.TheVariants as dir_states
use Rattle.directory_table.specs.declared.row.DirEvent.{DirEvent}
use Rattle.directory_table.specs.declared.row.DirEvent.TheVariants as dir_events
use Rattle.directory_table.specs.declared.row.DirRow.{DirRow}
use Rattle.directory_table.specs.declared.row.DirSends.{DirSends}
use Rattle.directory_table.specs.declared.row.DirSends.TheVariants as dir_sends
use Rattle.protocol_coherence.proofs.Answer.{line_at}
use Rattle.protocol_coherence.proofs.Each.{all_words, each_fit, each_fit-at, each_state, each_state-at, if_go}
use Rattle.protocol_coherence.proofs.Each.{if_go-at, if_so, if_so-at, implies-at, left, not-at, right}
use Rattle.protocol_coherence.proofs.FwdGetS as FwdGetS
use Rattle.protocol_coherence.proofs.Quiet.{quiet_open}
use Rattle.protocol_coherence.proofs.Samples.{ack_row, ack_sample, data_row, data_sample}
use Rattle.protocol_coherence.proofs.Sets.{in_without}
use Rattle.protocol_coherence.proofs.Settings.{by_setting}
use Rattle.protocol_coherence.specs.Coherent.{IsCoherent}
use Rattle.protocol_coherence.specs.Fit.{◌implies◌, is_asked, is_fwd_get_m, is_fwd_get_s, is_get_m, is_get_s}
use Rattle.protocol_coherence.specs.Fit.{is_no_data, is_no_request, is_open, is_put_m, is_put_s, owes, waits_to_write}
use Rattle.protocol_coherence.specs.Line.{Line, Look, Near, Part, Roles, near_of}
use Rattle.protocol_coherence.specs.LineSteps.{IsWithin, is_asked_for, stands}
use Rattle.protocol_coherence.specs.Promise.{HasRoom, HasRoomAtService, HasRoomAtTurn, has_room_for_forward}
use Rattle.protocol_coherence.specs.Promise.{has_room_for_inv, has_room_for_put_ack}

-- ---- the caches

-- The row finds room on the core's own channels, and gives data only where it may.
unfoldable is_roomy : Bool → Near → Look → CacheSends → Bool
is_roomy gives n l sent =
    ((sends_get sent || sends_put sent) implies is_no_request l.request)
    && (sends_inv_ack sent implies not l.sent)
    && (sends_home sent implies not n.home)
    && (sends_data sent implies gives)

unfoldable is_roomy_at : CacheEvent → Bool → (Look → Bool) → Bool
is_roomy_at event gives guard = each_fit (λ n l. if_so (guard l)
    (λ _. if_go (row_of l.state event) (λ next sent. is_roomy gives n l sent)))

load : is_roomy_at cache_events.Load false (λ l. true) ≡ true
unfolding all_words is_roomy_at is_roomy
load = refl

write : is_roomy_at cache_events.Write false (λ l. true) ≡ true
unfolding all_words is_roomy_at is_roomy
write = refl

eviction : is_roomy_at cache_events.Eviction false (λ l. true) ≡ true
unfolding all_words is_roomy_at is_roomy
eviction = refl

inv : is_roomy_at cache_events.Inv false (λ l. l.inv) ≡ true
unfolding all_words is_roomy_at is_roomy
inv = refl

fwd_get_s : is_roomy_at cache_events.FwdGetS true (λ l. not l.inv && is_fwd_get_s l.forward) ≡ true
unfolding all_words is_roomy_at is_roomy
fwd_get_s = refl

fwd_get_m : is_roomy_at cache_events.FwdGetM true (λ l. not l.inv && is_fwd_get_m l.forward) ≡ true
unfolding all_words is_roomy_at is_roomy
fwd_get_m = refl

put_ack : is_roomy_at cache_events.PutAck false (λ l. true) ≡ true
unfolding all_words is_roomy_at is_roomy
put_ack = refl

data_e : (loads : Bool) → is_roomy_at (cache_events.DataE loads) false (λ l. true) ≡ true
unfolding all_words is_roomy_at is_roomy
data_e true = refl
data_e false = refl

data' : (all few : Bool) → is_roomy_at (data_sample all few) false (λ l. true) ≡ true
unfolding all_words is_roomy_at is_roomy
data' true true = refl
data' true false = refl
data' false true = refl
data' false false = refl

-- What is known of whom a forwarded request names.
abbrev Named : ℕ → Line → ℕ → Type 0
Named cores line r = (r < cores) × IsTrue (is_no_data (line.part r).look.incoming)

room_at : (cores : ℕ) (line : Line) (roles : Roles) (c : ℕ) (event : CacheEvent) (gives : Bool) (guard : Look → Bool)
    (next : CopyState) (sent : CacheSends) → is_roomy_at event gives guard ≡ true → IsCoherent cores line roles
    → c < cores
    → guard (line.part c).look ≡ true → row_of (line.part c).look.state event ≡ rows.Go next sent
    → (gives ≡ true → Named cores line (line.part c).names) → HasRoomAtTurn cores line c sent
unfolding is_roomy_at is_roomy
room_at cores line roles c event gives guard next sent tested coherent within here row named =
    let n = near_of line roles c in
    let l = (line.part c).look in
    let e = if_go-at _ (λ next sent. is_roomy gives n l sent) next sent
    (if_so-at _ _ (each_fit-at _ tested n l (coherent.fit c within)) here) row in
    let e1 = left _ _ e in
    let e2 = left _ _ e1 in
    record {
      request = implies-at _ _ (left _ _ e2);
      ack = λ h. not-at _ (implies-at _ _ (right _ _ e2) h);
      named = λ h. (named (implies-at _ _ (right _ _ e) h)).0;
      data_channel = λ h. (named (implies-at _ _ (right _ _ e) h)).1;
      home = λ h. not-at _ (implies-at _ _ (right _ _ e1) h);
    }

asker_free : each_fit (λ n l. if_so (is_asked n.directory n.home && n.asker) (λ _. is_no_data l.incoming)) ≡ true
unfolding all_words
asker_free = refl

writer_free : each_fit (λ n l. if_so (waits_to_write l) (λ _. is_no_data l.incoming)) ≡ true
unfolding all_words
writer_free = refl

named_reader : (cores : ℕ) (line : Line) (roles : Roles) (c : ℕ) (next : CopyState) (sent : CacheSends)
    → IsCoherent cores line roles
    → c < cores → IsTrue (stands (line.part c) cache_events.FwdGetS)
    → row_of (line.part c).look.state cache_events.FwdGetS ≡ rows.Go next sent
    → Named cores line (line.part c).names
named_reader cores line roles c next sent coherent within here row =
    let pair = FwdGetS.pair cores line roles c next sent coherent within here row in
    let to = subst (λ y. y < cores) (sym pair.asker) coherent.roles_within.asker in
    let r = (line.part c).names in (
      to,
      if_so-at _ _ (each_fit-at _ asker_free (near_of line roles r) (line.part r).look (coherent.fit r to))
          (and_from _ _ pair.asked (eq-eqb r roles.asker pair.asker)),
    )

named_writer : (cores : ℕ) (line : Line) (roles : Roles) (c : ℕ) → IsCoherent cores line roles → c < cores
    → is_fwd_get_m (line.part c).look.forward ≡ true → Named cores line (line.part c).names
named_writer cores line roles c coherent within fwd =
    let chained = coherent.chained c within in
    let to = chained.within fwd in
    let r = (line.part c).names in (
      to,
      if_so-at _ _ (each_fit-at _ writer_free (near_of line roles r) (line.part r).look (coherent.fit r to))
          (chained.writer fwd),
    )

nothing : {A : Type 0} → false ≡ true → A
nothing e = absurd (true≢false (sym e))

turn_room : (cores : ℕ) (line : Line) (roles : Roles) (c : ℕ) (event : CacheEvent) (next : CopyState)
    (sent : CacheSends)
    → IsCoherent cores line roles → c < cores → IsTrue (stands (line.part c) event)
    → row_of (line.part c).look.state event ≡ rows.Go next sent → HasRoomAtTurn cores line c sent
turn_room cores line roles c cache_events.Load next sent coherent within here row =
    room_at cores line roles c cache_events.Load false (λ l. true) next sent load coherent within refl row nothing
turn_room cores line roles c cache_events.Write next sent coherent within here row =
    room_at cores line roles c cache_events.Write false (λ l. true) next sent write coherent within refl row nothing
turn_room cores line roles c cache_events.Eviction next sent coherent within here row =
    room_at cores line roles c cache_events.Eviction false (λ l. true) next sent eviction coherent within refl row
    nothing
turn_room cores line roles c cache_events.Inv next sent coherent within here row =
    room_at cores line roles c cache_events.Inv false (λ l. l.inv) next sent inv coherent within here row nothing
turn_room cores line roles c cache_events.FwdGetS next sent coherent within here row =
    room_at cores line roles c cache_events.FwdGetS true (λ l. not l.inv && is_fwd_get_s l.forward) next sent fwd_get_s
    coherent within here row
    (λ h. named_reader cores line roles c next sent coherent within here row)
turn_room cores line roles c cache_events.FwdGetM next sent coherent within here row =
    room_at cores line roles c cache_events.FwdGetM true (λ l. not l.inv && is_fwd_get_m l.forward) next sent fwd_get_m
    coherent within here row
    (λ h. named_writer cores line roles c coherent within (and_parts (not (line.part c).look.inv)
    (is_fwd_get_m (line.part c).look.forward) here).1)
turn_room cores line roles c cache_events.PutAck next sent coherent within here row =
    room_at cores line roles c cache_events.PutAck false (λ l. true) next sent put_ack coherent within refl row nothing
turn_room cores line roles c (cache_events.DataE loads) next sent coherent within here row =
    room_at cores line roles c (cache_events.DataE loads) false (λ l. true) next sent
    (data_e loads) coherent within refl row nothing
turn_room cores line roles c (cache_events.Data n k) next sent coherent within here row =
    room_at cores line roles c (data_sample (k == n) (nat_lt k n)) false (λ l. true) next sent
    (data' (k == n) (nat_lt k n)) coherent within refl
    (sym (data_row (line.part c).look.state n k (k == n) (nat_lt k n) refl refl) ∙ row) nothing
turn_room cores line roles c (cache_events.InvAck n k) next sent coherent within here row = nothing here

-- An Inv-Ack's row sends nothing.
abbrev is_nothing : CacheSends → Bool
is_nothing cache_sends.Nothing = true
is_nothing _ = false

ack_nothing : (all few : Bool) → each_state (λ s. if_go (row_of s (ack_sample all few)) (λ next sent. is_nothing sent))
    ≡ true
unfolding all_words
ack_nothing true true = refl
ack_nothing true false = refl
ack_nothing false true = refl
ack_nothing false false = refl

is_nothing-at : (sent : CacheSends) → is_nothing sent ≡ true → sent ≡ cache_sends.Nothing
is_nothing-at cache_sends.Nothing e = refl
is_nothing-at _ e = nothing e

ack_sends : (state next : CopyState) (n k : ℕ) (sent : CacheSends)
    → row_of state (cache_events.InvAck n k) ≡ rows.Go next sent → sent ≡ cache_sends.Nothing
ack_sends state next n k sent row =
    let all = k + 1 == n in
    let few = nat_lt (k + 1) n in
    is_nothing-at sent (if_go-at _ (λ next sent. is_nothing sent) next sent
    (each_state-at _ (ack_nothing all few) state)
    (sym (ack_row state n k all few refl refl) ∙ row))

-- ---- the directory

getter_free : each_fit (λ n l. if_so (is_get_s l.request || is_get_m l.request) (λ _. is_no_data l.incoming)) ≡ true
unfolding all_words
getter_free = refl

putter_free : each_fit (λ n l. if_so (is_put_s l.request || is_put_m l.request) (λ _. has_room_for_put_ack l)) ≡ true
unfolding all_words
putter_free = refl

owner_free : each_fit (λ n l. if_so n.owner (λ _. has_room_for_forward l)) ≡ true
unfolding all_words
owner_free = refl

sharer_free : each_fit (λ n l. if_so (is_shared n.directory && n.sharer && not (owes l)) (λ _. has_room_for_inv l))
    ≡ true
unfolding all_words
sharer_free = refl

-- The row, where it goes on, finds room.
abbrev IsRoomy : ℕ → Line → DirEvent → DirRow → Type 0
IsRoomy cores line event row = IfGo row (λ state owner sharers sent writes. HasRoomAtService cores line event sent)

no_data_for : (cores : ℕ) (line : Line) (roles : Roles) (c : ℕ) → IsCoherent cores line roles → c < cores
    → (is_get_s (line.part c).look.request || is_get_m (line.part c).look.request) ≡ true
    → IsTrue (is_no_data (line.part c).look.incoming)
no_data_for cores line roles c coherent within wants =
    if_so-at _ _ (each_fit-at _ getter_free (near_of line roles c) (line.part c).look (coherent.fit c within)) wants

room_for_put_ack : (cores : ℕ) (line : Line) (roles : Roles) (c : ℕ) → IsCoherent cores line roles → c < cores
    → (is_put_s (line.part c).look.request || is_put_m (line.part c).look.request) ≡ true
    → IsTrue (has_room_for_put_ack (line.part c).look)
room_for_put_ack cores line roles c coherent within wants =
    if_so-at _ _ (each_fit-at _ putter_free (near_of line roles c) (line.part c).look (coherent.fit c within)) wants

room_for_forward : (cores : ℕ) (roles : Roles) (owner : CoreId) (s : ℕ) (home : Bool) (part : ℕ → Part)
    → IsCoherent cores (line_at dir_states.M (Some owner) s home part) roles
    → IsTrue (has_room_for_forward (part owner.0).look)
room_for_forward cores roles owner s home part coherent =
    let line = line_at dir_states.M (Some owner) s home part in
    if_so-at _ _ (each_fit-at _ owner_free (near_of line roles owner.0) (part owner.0).look
    (coherent.fit owner.0 coherent.entry.owner_within))
    (eq-eqb owner.0 owner.0 refl)

room_for_inv : (cores : ℕ) (roles : Roles) (s : ℕ) (home : Bool) (part : ℕ → Part) (c x : ℕ) → cores ≤ 64
    → IsCoherent cores (line_at dir_states.S None s home part) roles → c < cores → x < cores → has (without s c) x
    ≡ true
    → IsTrue (has_room_for_inv (part x).look)
unfolding is_open
room_for_inv cores roles s home part c x most coherent within below is =
    let line = line_at dir_states.S None s home part in
    let quiet = quiet_open cores line roles coherent refl in
    let member = (and_parts (has s x) (not (x == c)) (sym (in_without s c x (omega arith) (omega arith)) ∙ is)).0 in
    if_so-at _ _ (each_fit-at _ sharer_free (near_of line roles x) (part x).look (coherent.fit x below))
    (and_from _ _ member (ap not (quiet.owes x below)))

either_s : (a b : Bool) → a ≡ true → (a || b) ≡ true
either_s a b e = ap (λ x. x || b) e

either_m : (a b : Bool) → b ≡ true → (a || b) ≡ true
either_m a b e = ap (λ x. a || x) e ∙ or-true a

-- Data, Put-Ack, a forwarded request and nothing, each by itself.
data_room : (cores : ℕ) (line : Line) (event : DirEvent) (sent : DirSends)
    → (Law.acknowledges_put sent ≡ false) → Law.forwarded_to sent ≡ None → ((x : ℕ) → Law.is_sent_inv sent x ≡ false)
    → IfSome (Law.requester event) (λ core. IsTrue (is_no_data (line.part core.0).look.incoming))
    → HasRoomAtService cores line event sent
data_room cores line event sent no_ack no_forward no_inv room = record {
  data_channel = λ h. room;
  put_ack = λ h. absurd (true≢false (sym h ∙ no_ack));
  named = subst (λ o. IfSome o (λ owner. owner.0 < cores)) (sym no_forward) tt;
  forward = subst (λ o. IfSome o (λ owner. IsTrue (has_room_for_forward (line.part owner.0).look))) (sym no_forward) tt;
  inv = λ x below h. absurd (true≢false (sym h ∙ no_inv x));
}

ack_room : (cores : ℕ) (line : Line) (event : DirEvent)
    → IfSome (Law.requester event) (λ core. IsTrue (has_room_for_put_ack (line.part core.0).look))
    → HasRoomAtService cores line event dir_sends.PutAck
ack_room cores line event room = record {
  data_channel = λ h. nothing h;
  put_ack = λ h. room;
  named = tt;
  forward = tt;
  inv = λ x below h. nothing h;
}

none_room : (cores : ℕ) (line : Line) (event : DirEvent) → HasRoomAtService cores line event dir_sends.Nothing
none_room cores line event = record {
  data_channel = λ h. nothing h;
  put_ack = λ h. nothing h;
  named = tt;
  forward = tt;
  inv = λ x below h. nothing h;
}

module _ (cores : ℕ) (roles : Roles) (s : ℕ) (home : Bool) (part : ℕ → Part) (most : cores ≤ 64) where
  -- Each row with the exclusive state finds room. `_` covers each state that no line above it takes.
  room_on : (directory : DirState) (owner : Option CoreId) (event : DirEvent)
      → IsCoherent cores (line_at directory owner s home part) roles → IsWithin cores event
      → IsTrue (is_asked_for (line_at directory owner s home part) event)
      → IsRoomy cores (line_at directory owner s home part) event (Directory.cell true directory owner s event)
  room_on dir_states.M None event coherent within wants = absurd (true≢false (sym coherent.entry.in_m))
  room_on dir_states.S (Some owner) event coherent within wants = absurd (true≢false coherent.entry.in_m)
  room_on dir_states.M (Some owner) (dir_events.GetS core) coherent within wants =
      cond_both (owner.0 == core.0) _ _ (IsRoomy _ _ _) (λ own. tt) (λ other. record {
        data_channel = λ h. nothing h;
        put_ack = λ h. nothing h;
        named = coherent.entry.owner_within;
        forward = room_for_forward cores roles owner s home part coherent;
        inv = λ x below h. nothing h;
      })
  room_on dir_states.M (Some owner) (dir_events.GetM core) coherent within wants =
      cond_both (owner.0 == core.0) _ _ (IsRoomy _ _ _) (λ own. tt) (λ other. record {
        data_channel = λ h. nothing h;
        put_ack = λ h. nothing h;
        named = coherent.entry.owner_within;
        forward = room_for_forward cores roles owner s home part coherent;
        inv = λ x below h. nothing h;
      })
  room_on dir_states.M (Some owner) (dir_events.PutS core) coherent within wants =
      cond_both (owner.0 == core.0) _ _ (IsRoomy _ _ _) (λ own. tt)
      (λ other. ack_room _ _ _ (room_for_put_ack cores _ roles core.0 coherent within (either_s _ _ wants)))
  room_on dir_states.M (Some owner) (dir_events.PutM core) coherent within wants =
      let room = ack_room cores (line_at dir_states.M (Some owner) s home part) (dir_events.PutM core)
      (room_for_put_ack cores _ roles core.0 coherent within (either_m _ _ wants)) in
      cond_both (owner.0 == core.0) _ _ (IsRoomy _ _ _) (λ own. room) (λ other. room)
  room_on dir_states.S None (dir_events.GetM core) coherent within wants = record {
    data_channel = λ h. no_data_for cores (line_at dir_states.S None s home part) roles core.0 coherent within
        (either_m _ _ wants);
    put_ack = λ h. nothing h;
    named = tt;
    forward = tt;
    inv = λ x below h. room_for_inv cores roles s home part core.0 x most coherent within below h;
  }
  room_on dir_states.S_D owner (dir_events.GetS core) coherent within wants = tt
  room_on dir_states.S_D owner (dir_events.GetM core) coherent within wants = tt
  room_on dir_states.S_D owner dir_events.DataHome coherent within wants = none_room _ _ _
  room_on _ owner dir_events.DataHome coherent within wants = tt
  room_on _ owner (dir_events.PutS core) coherent within wants =
      ack_room _ _ _ (room_for_put_ack cores _ roles core.0 coherent within (either_s _ _ wants))
  room_on _ owner (dir_events.PutM core) coherent within wants =
      ack_room _ _ _ (room_for_put_ack cores _ roles core.0 coherent within (either_m _ _ wants))
  room_on _ owner (dir_events.GetS core) coherent within wants =
      data_room _ _ _ _ refl refl (λ x. refl) (no_data_for cores _ roles core.0 coherent within (either_s _ _ wants))
  room_on _ owner (dir_events.GetM core) coherent within wants =
      data_room _ _ _ _ refl refl (λ x. refl) (no_data_for cores _ roles core.0 coherent within (either_m _ _ wants))

  -- Each row finds room at both settings.
  serve_room : (exclusive : Bool) (directory : DirState) (owner : Option CoreId) (event : DirEvent)
      → IsCoherent cores (line_at directory owner s home part) roles → IsWithin cores event
      → IsTrue (is_asked_for (line_at directory owner s home part) event)
      → IsRoomy cores (line_at directory owner s home part) event (Directory.cell exclusive directory owner s event)
  serve_room =
      by_setting (λ directory owner event row. IsCoherent cores (line_at directory owner s home part) roles
      → IsWithin cores event → IsTrue (is_asked_for (line_at directory owner s home part) event)
      → IsRoomy cores (line_at directory owner s home part) event row) s room_on
      (λ owner core coherent within wants. data_room _ _ _ _ refl refl (λ x. refl)
      (no_data_for cores _ roles core.0 coherent within (either_s _ _ wants)))

-- Each step finds room.
pub has_room : (exclusive : Bool) (cores : ℕ) (line : Line) (roles : Roles) → cores ≤ 64 → IsCoherent cores line roles
    → HasRoom exclusive cores line
has_room exclusive cores line roles most coherent = record {
  turn = λ c event next sent within here row. turn_room cores line roles c event next sent coherent within here row;
  ack = ack_sends;
  serve = λ event home step within wants row.
      subst (IsRoomy cores line event) row
      (serve_room cores roles line.sharers line.home line.part most exclusive line.directory line.owner event coherent
      within wants);
}
