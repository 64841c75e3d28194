-- The laws leave a row of the directory no choice: what is sent and who owns the line are known from the entry and the
-- event, and the next state from who owns and shares the line.
use Rattle.std.proofs.Common.{◌≡◌, ℕ, ◌<◌, ◌&&◌, ◌||◌, Bool, true, false, not, if◌then◌else◌, Option, Some, None}
use Rattle.std.proofs.Common.{is_some, refl, sym, ap, ◌∙◌, inl, inr, IfSome}
use Rattle.std.proofs.lemmas.Bool.{cases_lt, ne_eqb}
use Rattle.address_map.specs.declared.address.CoreId.{CoreId}
use Rattle.address_map.specs.CoreSet.{count_of, has}
use Rattle.address_map.proofs.CoreSets.{has-zero, same_from_has}
use Rattle.directory_table.specs.Law.{AwaitsInvalidated, HasOwnerInM, HasSets, HasSharersInS, IsKept, IsLawful, IsSet}
use Rattle.directory_table.specs.Law.{Replies, Serves, acknowledges_put, forwarded_get_m, forwarded_get_s, forwarded_to}
use Rattle.directory_table.specs.Law.{getter, invalidated_by, is_awaited, is_data_home, is_idle, is_modified}
use Rattle.directory_table.specs.Law.{is_sent_inv, is_shared, is_written_back, reader, sends_data, sends_inv}
use Rattle.directory_table.specs.Law.{sends_only_copy, writer}
use Rattle.directory_table.specs.Row.{shared_by}
use Rattle.directory_table.specs.declared.state.DirState.{DirState}
use Rattle.directory_table.specs.declared.state.DirState.TheVariants as dir_states
use Rattle.directory_table.specs.declared.row.DirEvent.{DirEvent}
use Rattle.directory_table.specs.declared.row.DirEvent.TheVariants as dir_events
use Rattle.directory_table.specs.declared.row.DirSends.{DirSends}
use Rattle.directory_table.specs.declared.row.DirSends.TheVariants as dir_sends
use Rattle.directory_table.specs.declared.row.DirRow.{DirRow}
use Rattle.directory_table.specs.declared.row.DirRow.TheVariants as dir_rows

apart : {P : Type 0} → false ≡ true → P
apart clash = absurd (cc clash)

-- ---- sets

-- Sets that have the same of the cores that there can be are the same.
same_sets : (one other : ℕ) → IsSet one → IsSet other → ((core : ℕ) → core < 64 → has one core ≡ has other core)
    → one ≡ other
same_sets one other small small_too same =
    same_from_has one other (λ core. elim (cases_lt core 64) [
      | inl below ↦ same core below
      | inr past ↦ small core past ∙ sym (small_too core past)
    ])

is_sent_inv-has : (x : DirSends) (core : ℕ) → is_sent_inv x core ≡ has (invalidated_by x) core
is_sent_inv-has (dir_sends.DataAndInv acks invalidated) core = refl
is_sent_inv-has _ core = sym (has-zero core)

-- ---- what is sent is known from these facts of it

abbrev forwarded : Bool → Option CoreId → DirSends
forwarded to_write None = dir_sends.Nothing
forwarded to_write (Some owner) = if to_write then dir_sends.FwdGetM owner else dir_sends.FwdGetS owner

abbrev sends_from : (put_ack inv only block to_write : Bool) → ℕ → Option CoreId → DirSends
sends_from put_ack inv only block to_write cores to =
    if put_ack then dir_sends.PutAck
    else if inv then dir_sends.DataAndInv (count_of cores) cores
    else if only then dir_sends.DataE
    else if block then dir_sends.Data 0
    else forwarded to_write to

abbrev sends_told : DirSends → DirSends
sends_told x =
    sends_from (acknowledges_put x) (sends_inv x) (sends_only_copy x) (sends_data x) (is_some (forwarded_get_m x))
    (invalidated_by x) (forwarded_to x)

sends_from-told : (x : DirSends) → AwaitsInvalidated x → sends_told x ≡ x
sends_from-told (dir_sends.Data acks) counted = ap (λ n. dir_sends.Data n) (sym counted)
sends_from-told (dir_sends.DataAndInv acks cores) counted = ap (λ n. dir_sends.DataAndInv n cores) (sym counted)
sends_from-told _ counted = refl

same_told : (x y : DirSends) → acknowledges_put x ≡ acknowledges_put y → sends_inv x ≡ sends_inv y
    → sends_only_copy x ≡ sends_only_copy y → sends_data x ≡ sends_data y
    → is_some (forwarded_get_m x) ≡ is_some (forwarded_get_m y) → invalidated_by x ≡ invalidated_by y
    → forwarded_to x ≡ forwarded_to y → sends_told x ≡ sends_told y
same_told x y put_ack inv only block to_write cores to = cc

-- ---- these facts are known from the entry and the event

-- data go out where a Get comes to a line that no core may write, and else it is forwarded
data_by : (d f g m : Bool) → (d || f) ≡ g → (d ≡ true → m ≡ false) → (f ≡ true → m ≡ true) → d ≡ (g && not m)
data_by true f g true get current owned = apart (sym (current refl))
data_by true f g false get current owned = rw (sym get) refl
data_by false true g m get current owned = rw (sym get) (rw (owned refl) refl)
data_by false false g m get current owned = rw (sym get) refl

write_by : (d fs fm g r w m : Bool) → (d || (fs || fm)) ≡ g → (w ≡ true → g ≡ true) → (w ≡ true → r ≡ false)
    → (d ≡ true → m ≡ false) → (fs ≡ true → r ≡ true) → (fm ≡ true → (w ≡ true) × (m ≡ true)) → fm ≡ (w && m)
write_by d fs true g r w m get asks one current reads writes = rw (writes refl).0 (rw (writes refl).1 refl)
write_by d fs false g r false m get asks one current reads writes = refl
write_by d fs false g r true false get asks one current reads writes = refl
write_by true fs false g r true true get asks one current reads writes = apart (sym (current refl))
write_by false true false g r true true get asks one current reads writes = apart (sym (one refl) ∙ reads refl)
write_by false false false g r true true get asks one current reads writes = apart (get ∙ asks refl)

-- the same of a forwarded read
read_by : (d fs fm g r w m : Bool) → (d || (fs || fm)) ≡ g → (r ≡ true → g ≡ true) → (w ≡ true → r ≡ false)
    → (d ≡ true → m ≡ false) → (fs ≡ true → (r ≡ true) × (m ≡ true)) → (fm ≡ true → w ≡ true) → fs ≡ (r && m)
read_by d true fm g r w m get asks one current reads writes = rw (reads refl).0 (rw (reads refl).1 refl)
read_by d false fm g false w m get asks one current reads writes = refl
read_by d false fm g true w false get asks one current reads writes = refl
read_by true false fm g true w true get asks one current reads writes = apart (sym (current refl))
read_by false false true g true w true get asks one current reads writes = apart (sym (one (writes refl)))
read_by false false false g true w true get asks one current reads writes = apart (get ∙ asks refl)

to_nobody : (g : Bool) (owner : Option CoreId) → None ≡ (if g && false then owner else None)
to_nobody true owner = refl
to_nobody false owner = refl

to_by : (o owner : Option CoreId) (d g m : Bool) → (d || is_some o) ≡ g → (d ≡ true → m ≡ false)
    → is_some owner ≡ m → IfSome o (λ to. owner ≡ Some to) → o ≡ (if g && m then owner else None)
to_by None owner true g m get current owned named = rw (current refl) (to_nobody g owner)
to_by None owner false g m get current owned named = rw (sym get) refl
to_by (Some to) owner true g m get current owned named =
    apart (sym (current refl) ∙ sym owned ∙ ap (λ o. is_some o) named)
to_by (Some to) owner false g m get current owned named =
    rw (sym get) (rw (sym owned ∙ ap (λ o. is_some o) named) (sym named))

-- ---- what the laws say of one row

reads_ask : (event : DirEvent) → is_some (reader event) ≡ true → is_some (getter event) ≡ true
reads_ask (dir_events.GetS core) is = refl
reads_ask _ is = apart is

writes_ask : (event : DirEvent) → is_some (writer event) ≡ true → is_some (getter event) ≡ true
writes_ask (dir_events.GetM core) is = refl
writes_ask _ is = apart is

no_reader : (event : DirEvent) → is_some (writer event) ≡ true → is_some (reader event) ≡ false
no_reader (dir_events.GetS core) is = apart is
no_reader _ is = refl

current-unowned : (state : DirState) → (is_idle state || is_shared state) ≡ true → is_modified state ≡ false
current-unowned dir_states.M is = apart is
current-unowned _ is = refl

first : (o : Option CoreId) (P Q : CoreId → Type 0) → IfSome o (λ to. P to × Q to) → IfSome o P
first None P Q both = both
first (Some to) P Q both = both.0

owned-some : (o owner : Option CoreId) → IfSome o (λ to. owner ≡ Some to) → is_some o ≡ true → is_some owner ≡ true
owned-some None owner named is = apart is
owned-some (Some to) owner named is = ap (λ o. is_some o) named

forwarded_either : (x : DirSends)
    → is_some (forwarded_to x) ≡ (is_some (forwarded_get_s x) || is_some (forwarded_get_m x))
forwarded_either dir_sends.Nothing = refl
forwarded_either _ = refl

or_right : (one other : Bool) → other ≡ true → (one || other) ≡ true
or_right true other is = refl
or_right false other is = is

module _ (state : DirState) (owner : Option CoreId) (event : DirEvent) (x : DirSends) (kept : HasOwnerInM state owner)
    (serves : Serves state owner event x) (replies : Replies event x) where
  get : (sends_data x || (is_some (forwarded_get_s x) || is_some (forwarded_get_m x))) ≡ is_some (getter event)
  get = ap (λ f. sends_data x || f) (sym (forwarded_either x)) ∙ replies.get

  current : sends_data x ≡ true → is_modified state ≡ false
  current is = current-unowned state (serves.current is)

  named : IfSome (forwarded_to x) (λ to. owner ≡ Some to)
  named = first (forwarded_to x) _ _ serves.forwarded

  owned : is_some (forwarded_to x) ≡ true → is_modified state ≡ true
  owned is = sym kept ∙ owned-some (forwarded_to x) owner named is

  data-told : sends_data x ≡ (is_some (getter event) && not (is_modified state))
  data-told =
      data_by (sends_data x) (is_some (forwarded_to x)) (is_some (getter event)) (is_modified state) replies.get current
      owned

  to-told : forwarded_to x ≡ (if is_some (getter event) && is_modified state then owner else None)
  to-told =
      to_by (forwarded_to x) owner (sends_data x) (is_some (getter event)) (is_modified state) replies.get current kept
      named

  write-told : is_some (forwarded_get_m x) ≡ (is_some (writer event) && is_modified state)
  write-told =
      write_by (sends_data x) (is_some (forwarded_get_s x)) (is_some (forwarded_get_m x)) (is_some (getter event))
      (is_some (reader event)) (is_some (writer event)) (is_modified state) get (writes_ask event) (no_reader event)
      current replies.get_s
      (λ is. (
        replies.get_m is,
        owned (forwarded_either x ∙ or_right (is_some (forwarded_get_s x)) (is_some (forwarded_get_m x)) is),
      ))

  read-told : is_some (forwarded_get_s x) ≡ (is_some (reader event) && is_modified state)
  read-told =
      read_by (sends_data x) (is_some (forwarded_get_s x)) (is_some (forwarded_get_m x)) (is_some (getter event))
      (is_some (reader event)) (is_some (writer event)) (is_modified state) get (reads_ask event) (no_reader event)
      current
      (λ is. (replies.get_s is, owned (forwarded_either x ∙ ap (λ s. s || is_some (forwarded_get_m x)) is)))
      replies.get_m

-- ---- who owns the line afterwards

abbrev owner_after : Bool → DirState → Option CoreId → DirEvent → Option CoreId
owner_after exclusive state owner (dir_events.GetM core) = Some core
owner_after exclusive state owner (dir_events.GetS core) = if exclusive && is_idle state then Some core else None
owner_after exclusive state owner event = if is_written_back state owner event then None else owner

given_up_or_kept : (b : Bool) (o owner : Option CoreId) → (b ≡ false → o ≡ owner) → (b ≡ true → o ≡ None)
    → o ≡ (if b then None else owner)
given_up_or_kept true o owner kept given_up = given_up refl
given_up_or_kept false o owner kept given_up = kept refl

not_both : {P : Type 0} (state : DirState) → is_awaited state ≡ true → is_modified state ≡ true → P
not_both dir_states.S_D awaited modified = apart modified
not_both _ awaited modified = apart awaited

-- the row that goes on to this
abbrev row_to : DirState → Option CoreId → ℕ → DirSends → Bool → DirRow
row_to next owns shares sent writes =
    dir_rows.Go (record { state = next; owner = owns; sharers = shares; sends = sent; writes_home = writes })

-- a row that goes on and obeys the laws
abbrev Goes : Bool → DirState → Option CoreId → ℕ → DirEvent → DirState → Option CoreId → ℕ → DirSends → Bool → Type 0
Goes exclusive state owner sharers event next owns shares sent writes =
    IsLawful exclusive state owner sharers event (row_to next owns shares sent writes)

-- A core that reads a line that no core has becomes its owner under the setting, and is named as one.
read-granted : (state : DirState) (exclusive : Bool) (owner : Option CoreId) (sharers : ℕ) (core : CoreId)
    (next : DirState) (shares : ℕ) (sent : DirSends) (writes : Bool) → IsKept state owner sharers (dir_events.GetS core)
    → Goes exclusive state owner sharers (dir_events.GetS core) next None shares sent writes
    → None ≡ (if exclusive && is_idle state then Some core else None)
read-granted _ false owner sharers core next shares sent writes kept row = refl
read-granted dir_states.I true owner sharers core next shares sent writes kept row =
    let none = ap (λ set. has set core.0) (kept.sharers_in_s.none refl) ∙ has-zero core.0 in
    let shared = row.shared core.0 kept.core ∙ none in
    apart (sym (ap (λ b. b || false) shared) ∙ row.known kept.core)
read-granted _ true owner sharers core next shares sent writes kept row = refl

-- An owner after a read was made one by it.
read-owner : (exclusive : Bool) (state : DirState) (owner : Option CoreId) (sharers : ℕ) (core : CoreId)
    (next : DirState) (c : CoreId) (shares : ℕ) (sent : DirSends) (writes : Bool)
    → IsKept state owner sharers (dir_events.GetS core)
    → Goes exclusive state owner sharers (dir_events.GetS core) next (Some c) shares sent writes
    → Some c ≡ (if exclusive && is_idle state then Some core else None)
read-owner exclusive state owner sharers core next c shares sent writes kept row =
    elim row.granted.asked [
      | inl was ↦
          let modified = sym kept.owner_in_m ∙ ap (λ o. is_some o) was in
          let read = read-told state owner (dir_events.GetS core) sent kept.owner_in_m row.served row.replied
          ∙ modified in
          let awaited = row.awaited.lasts ∙ ap (λ b. b || is_awaited state && true) read in
          not_both next awaited (sym (row.owner_in_m kept.owner_in_m))
      | inr asked ↦ elim asked [
        | inl written ↦ absurd (cc written)
        | inr read ↦ rw read.0 (sym read.1)
      ]
    ]

owner-told : (exclusive : Bool) (state : DirState) (owner : Option CoreId) (sharers : ℕ) (event : DirEvent)
    (next : DirState) (owns : Option CoreId) (shares : ℕ) (sent : DirSends) (writes : Bool)
    → IsKept state owner sharers event → Goes exclusive state owner sharers event next owns shares sent writes
    → owns ≡ owner_after exclusive state owner event
owner-told exclusive state owner sharers (dir_events.GetM core) next owns shares sent writes kept row =
    row.granted.granted
owner-told exclusive state owner sharers (dir_events.GetS core) next None shares sent writes kept row =
    read-granted state exclusive owner sharers core next shares sent writes kept row
owner-told exclusive state owner sharers (dir_events.GetS core) next (Some c) shares sent writes kept row =
    read-owner exclusive state owner sharers core next c shares sent writes kept row
owner-told exclusive state owner sharers (dir_events.PutS core) next owns shares sent writes kept row =
    given_up_or_kept (is_written_back state owner (dir_events.PutS core)) owns owner row.granted.kept
    row.granted.given_up
owner-told exclusive state owner sharers (dir_events.PutM core) next owns shares sent writes kept row =
    given_up_or_kept (is_written_back state owner (dir_events.PutM core)) owns owner row.granted.kept
    row.granted.given_up
owner-told exclusive state owner sharers dir_events.DataHome next owns shares sent writes kept row =
    given_up_or_kept (is_written_back state owner dir_events.DataHome) owns owner row.granted.kept row.granted.given_up

-- ---- the next state

abbrev state_from : (owned awaited : Bool) → ℕ → DirState
state_from owned awaited shares = if owned then dir_states.M else if awaited then dir_states.S_D else shared_by shares

state_from-told : (state : DirState) (shares : ℕ) → HasSharersInS state shares
    → state_from (is_modified state) (is_awaited state) shares ≡ state
state_from-told dir_states.I shares in_s = ap (λ set. shared_by set) (in_s.none refl)
state_from-told dir_states.S shares in_s = rw (ne_eqb shares 0 (in_s.some refl)) refl
state_from-told dir_states.M shares in_s = refl
state_from-told dir_states.S_D shares in_s = refl

same_state : (a b : DirState) (s t : ℕ) → HasSharersInS a s → HasSharersInS b t → is_modified a ≡ is_modified b
    → is_awaited a ≡ is_awaited b → s ≡ t → a ≡ b
same_state a b s t one other owned awaited shares =
    let told : state_from (is_modified a) (is_awaited a) s ≡ state_from (is_modified b) (is_awaited b) t = cc in
    sym (state_from-told a s one) ∙ told ∙ state_from-told b t other

-- ---- two rows

same_row : (a b : DirState) (o p : Option CoreId) (s t : ℕ) (x y : DirSends) (v w : Bool) → a ≡ b → o ≡ p → s ≡ t
    → x ≡ y → v ≡ w → row_to a o s x v ≡ row_to b p t y w
same_row a b o p s t x y v w state owner sharers sent writes = cc

-- Two rows that go on and obey the laws send the same.
same_sends : (exclusive : Bool) (state : DirState) (owner : Option CoreId) (sharers : ℕ) (event : DirEvent)
    (a b : DirState) (o p : Option CoreId) (s t : ℕ) (x y : DirSends) (v w : Bool) → HasOwnerInM state owner
    → IsSet (invalidated_by x) → IsSet (invalidated_by y) → Goes exclusive state owner sharers event a o s x v
    → Goes exclusive state owner sharers event b p t y w → x ≡ y
same_sends exclusive state owner sharers event a b o p s t x y v w kept small small_too one other =
    let invalidated =
    same_sets (invalidated_by x) (invalidated_by y) small small_too
    (λ core within. sym (is_sent_inv-has x core) ∙ one.invalidated.each core within
    ∙ sym (other.invalidated.each core within) ∙ is_sent_inv-has y core) in
    let told =
    same_told x y (one.replied.put ∙ sym other.replied.put) (one.invalidated.written ∙ sym other.invalidated.written)
    (one.only_copy ∙ sym other.only_copy)
    (data-told state owner event x kept one.served one.replied
    ∙ sym (data-told state owner event y kept other.served other.replied))
    (write-told state owner event x kept one.served one.replied
    ∙ sym (write-told state owner event y kept other.served other.replied))
    invalidated
    (to-told state owner event x kept one.served one.replied
    ∙ sym (to-told state owner event y kept other.served other.replied))
    in
    sym (sends_from-told x one.acknowledgements) ∙ told ∙ sends_from-told y other.acknowledgements

-- Two rows that go on and obey the laws are one.
same_goes : (exclusive : Bool) (state : DirState) (owner : Option CoreId) (sharers : ℕ) (event : DirEvent)
    (a b : DirState) (o p : Option CoreId) (s t : ℕ) (x y : DirSends) (v w : Bool) → IsKept state owner sharers event
    → HasSets (row_to a o s x v) → HasSets (row_to b p t y w) → Goes exclusive state owner sharers event a o s x v
    → Goes exclusive state owner sharers event b p t y w → row_to a o s x v ≡ row_to b p t y w
same_goes exclusive state owner sharers event a b o p s t x y v w kept sets sets_too one other =
    let sent =
    same_sends exclusive state owner sharers event a b o p s t x y v w kept.owner_in_m sets.1 sets_too.1 one other in
    let owns =
    owner-told exclusive state owner sharers event a o s x v kept one
    ∙ sym (owner-told exclusive state owner sharers event b p t y w kept other) in
    let shares =
    same_sets s t sets.0 sets_too.0 (λ core within. one.shared core within ∙ sym (other.shared core within)) in
    let owned =
    sym (one.owner_in_m kept.owner_in_m) ∙ ap (λ z. is_some z) owns ∙ other.owner_in_m kept.owner_in_m in
    let awaited =
    one.awaited.lasts
    ∙ ap (λ z. is_some (forwarded_get_s z) || is_awaited state && not (is_data_home event)) sent
    ∙ sym other.awaited.lasts in
    let next =
    same_state a b s t (one.sharers_in_s kept.core kept.sharers_in_s) (other.sharers_in_s kept.core kept.sharers_in_s)
    owned awaited shares in
    same_row a b o p s t x y v w next owns shares sent (one.home ∙ sym other.home)

-- Two rows that obey the laws are one.
pub lawful-only : (exclusive : Bool) (state : DirState) (owner : Option CoreId) (sharers : ℕ) (event : DirEvent)
    (row other : DirRow) → IsKept state owner sharers event → HasSets row → HasSets other
    → IsLawful exclusive state owner sharers event row → IsLawful exclusive state owner sharers event other
    → other ≡ row
lawful-only exclusive state owner sharers event (dir_rows.Go step) (dir_rows.Go next) kept sets sets_too one other =
    same_goes exclusive state owner sharers event next.state step.state next.owner step.owner next.sharers step.sharers
    next.sends step.sends next.writes_home step.writes_home kept sets_too sets other one
lawful-only exclusive state owner sharers event dir_rows.Blocked dir_rows.Blocked kept sets sets_too one other = refl
lawful-only exclusive state owner sharers event dir_rows.NoEntry dir_rows.NoEntry kept sets sets_too one other = refl
lawful-only exclusive state owner sharers event _ _ kept sets sets_too one other =
    cc (one.blocked, other.blocked, one.entry kept.owner_in_m, other.entry kept.owner_in_m)
