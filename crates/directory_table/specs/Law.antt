-- Laws of the table, in words that are not its cells: who owns and who shares a line, from whom its data come, and what
-- each core is sent.
use Rattle.std.specs.Prelude.{◌≡◌, ◌≢◌, ◌⊎◌, ℕ, ◌+◌, ◌==◌, ◌<◌, ◌≤◌, ◌&&◌, ◌||◌, Bool, true, false, not, if◌then◌else◌}
use Rattle.std.specs.Prelude.{Option, Some, None, is_some, IfSome, IsTrue, IsFalse}
use Rattle.address_map.specs.declared.address.CoreId.{CoreId}
use Rattle.address_map.specs.CoreSet.{count_of, has}
use Rattle.directory_table.specs.declared.state.DirState.{DirState}
use Rattle.directory_table.specs.declared.state.DirState.TheVariants as dir_states
use Rattle.directory_table.specs.declared.row.DirEvent.{DirEvent}
use Rattle.directory_table.specs.declared.row.DirEvent.TheVariants as dir_events
use Rattle.directory_table.specs.declared.row.DirSends.{DirSends}
use Rattle.directory_table.specs.declared.row.DirSends.TheVariants as dir_sends
use Rattle.directory_table.specs.declared.row.DirRow.{DirRow}
use Rattle.directory_table.specs.declared.row.DirRow.TheVariants as dir_rows

-- Where the row goes on, its state, owner, sharers, what it sends and whether it writes the home copy have this
-- property.
abbrev pub IfGo : DirRow → (DirState → Option CoreId → ℕ → DirSends → Bool → Type 0) → Type 0
IfGo (dir_rows.Go step) P = P step.state step.owner step.sharers step.sends step.writes_home
IfGo dir_rows.Blocked P = Unit {0}
IfGo dir_rows.NoEntry P = Unit {0}

abbrev pub has_entry : DirRow → Bool
has_entry dir_rows.NoEntry = false
has_entry _ = true

abbrev pub is_blocked : DirRow → Bool
is_blocked dir_rows.Blocked = true
is_blocked _ = false

-- ---- states, owners and sharers

-- no core has the line
abbrev pub is_idle : DirState → Bool
is_idle dir_states.I = true
is_idle _ = false

-- some cores may read it
abbrev pub is_shared : DirState → Bool
is_shared dir_states.S = true
is_shared _ = false

-- one core may write it
abbrev pub is_modified : DirState → Bool
is_modified dir_states.M = true
is_modified _ = false

-- its block is on the way home
abbrev pub is_awaited : DirState → Bool
is_awaited dir_states.S_D = true
is_awaited _ = false

-- the core of the entry, if it has one, or that of the event, is this one
abbrev pub is_named : Option CoreId → ℕ → Bool
is_named (Some named) core = core == named.0
is_named None core = false

-- ---- events

abbrev pub reader : DirEvent → Option CoreId
reader (dir_events.GetS core) = Some core
reader _ = None

abbrev pub writer : DirEvent → Option CoreId
writer (dir_events.GetM core) = Some core
writer _ = None

-- the core that asks for the line, to read or to write it
abbrev pub getter : DirEvent → Option CoreId
getter (dir_events.GetS core) = Some core
getter event = writer event

-- the core that asks for something
abbrev pub requester : DirEvent → Option CoreId
requester (dir_events.PutS core) = Some core
requester (dir_events.PutM core) = Some core
requester event = getter event

abbrev pub is_put : DirEvent → Bool
is_put (dir_events.PutS core) = true
is_put (dir_events.PutM core) = true
is_put _ = false

-- a set can have the core that asks
abbrev pub IsOfSet : DirEvent → Type 0
IsOfSet event = IfSome (requester event) (λ core. core.0 < 64)

abbrev pub is_data_home : DirEvent → Bool
is_data_home dir_events.DataHome = true
is_data_home _ = false

-- The protocol can bring the event: a block comes home while it is awaited, and requests at any time, for a Put may
-- come late. Only the owner never asks for its own line, nor gives it up as one that it can only read.
abbrev pub can_come : DirState → Option CoreId → DirEvent → Bool
can_come state owner (dir_events.GetS core) = not (is_named owner core.0)
can_come state owner (dir_events.GetM core) = not (is_named owner core.0)
can_come state owner (dir_events.PutS core) = not (is_named owner core.0)
can_come state owner (dir_events.PutM core) = true
can_come state owner dir_events.DataHome = is_awaited state

-- the owner writes the line back
abbrev pub is_written_back : DirState → Option CoreId → DirEvent → Bool
is_written_back dir_states.M owner (dir_events.PutM core) = is_named owner core.0
is_written_back _ _ _ = false

-- ---- messages

-- the home copy goes to the requester
abbrev pub sends_data : DirSends → Bool
sends_data (dir_sends.Data acks) = true
sends_data dir_sends.DataE = true
sends_data (dir_sends.DataAndInv acks invalidated) = true
sends_data _ = false

abbrev pub sends_only_copy : DirSends → Bool
sends_only_copy dir_sends.DataE = true
sends_only_copy _ = false

abbrev pub acknowledges_put : DirSends → Bool
acknowledges_put dir_sends.PutAck = true
acknowledges_put _ = false

-- the requester is sent a message
abbrev pub answers : DirSends → Bool
answers sent = sends_data sent || acknowledges_put sent

-- the core to which the request is forwarded, as a GetS or as a GetM
abbrev pub forwarded_get_s : DirSends → Option CoreId
forwarded_get_s (dir_sends.FwdGetS owner) = Some owner
forwarded_get_s _ = None

abbrev pub forwarded_get_m : DirSends → Option CoreId
forwarded_get_m (dir_sends.FwdGetM owner) = Some owner
forwarded_get_m _ = None

abbrev pub forwarded_to : DirSends → Option CoreId
forwarded_to (dir_sends.FwdGetS owner) = Some owner
forwarded_to sent = forwarded_get_m sent

-- invalidations go out; one of them to this core
abbrev pub sends_inv : DirSends → Bool
sends_inv (dir_sends.DataAndInv acks invalidated) = true
sends_inv _ = false

abbrev pub is_sent_inv : DirSends → ℕ → Bool
is_sent_inv (dir_sends.DataAndInv acks invalidated) core = has invalidated core
is_sent_inv _ core = false

abbrev pub messages_to : DirEvent → DirSends → ℕ → ℕ
messages_to event sent core =
    (if answers sent && is_named (requester event) core then 1 else 0)
    + (if is_named (forwarded_to sent) core then 1 else 0)
    + (if is_sent_inv sent core then 1 else 0)

-- ---- laws

-- An owner is in the entry exactly in M.
abbrev pub HasOwnerInM : DirState → Option CoreId → Type 0
HasOwnerInM state owner = is_some owner ≡ is_modified state

-- The message's block is the newest: it comes from the last owner, or the owner writes it back.
abbrev pub brings_home : DirState → Option CoreId → DirEvent → Bool
brings_home state owner event = is_data_home event || is_written_back state owner event

-- Data leave the home copy only while it is current, in I and S; else the request is forwarded to the owner, another
-- core.
pub record Serves (state : DirState) (owner : Option CoreId) (event : DirEvent) (sent : DirSends) : Type 0 where
  pub current : IsTrue (sends_data sent) → IsTrue (is_idle state || is_shared state)
  pub forwarded : IfSome (forwarded_to sent) (λ to. (owner ≡ Some to) × IsFalse (is_named (requester event) to.0))

-- A Get that goes on has data sent to the requester, or is forwarded as the Get that it is. A Put is acknowledged, and
-- nothing else is.
pub record Replies (event : DirEvent) (sent : DirSends) : Type 0 where
  pub get : (sends_data sent || is_some (forwarded_to sent)) ≡ is_some (getter event)
  pub get_s : IsTrue (is_some (forwarded_get_s sent)) → IsTrue (is_some (reader event))
  pub get_m : IsTrue (is_some (forwarded_get_m sent)) → IsTrue (is_some (writer event))
  pub put : acknowledges_put sent ≡ is_put event

-- The core that is given the line is in the entry then, if a set can have it.
abbrev pub KnowsRequester : DirEvent → Option CoreId → ℕ → Type 0
KnowsRequester event owner sharers =
    IfSome (getter event) (λ core. core.0 < 64 → IsTrue (has sharers core.0 || is_named owner core.0))

-- A GetM makes its requester the owner. Nothing else makes a new owner but, under the setting, a GetS of a line that
-- no core has. An owner stays until another Get, or until it writes the line back.
pub record GrantsWriting (exclusive : Bool) (state : DirState) (owner : Option CoreId) (event : DirEvent)
    (next : Option CoreId) : Type 0 where
  pub granted : IfSome (writer event) (λ core. next ≡ Some core)
  pub asked : IfSome next (λ core. (owner ≡ Some core) ⊎ (writer event ≡ Some core)
      ⊎ (IsTrue (exclusive && is_idle state) × (reader event ≡ Some core)))
  pub kept : IsFalse (is_some (getter event) || is_written_back state owner event) → next ≡ owner
  pub given_up : IsTrue (is_written_back state owner event) → next ≡ None

-- A GetM of a shared line has each sharer invalidated but the requester. Nothing else invalidates.
pub record Invalidates (state : DirState) (sharers : ℕ) (event : DirEvent) (sent : DirSends) : Type 0 where
  pub written : sends_inv sent ≡ (is_shared state && is_some (writer event))
  pub each : (core : ℕ) → core < 64
      → is_sent_inv sent core
      ≡ (is_shared state && is_some (writer event) && has sharers core && not (is_named (writer event) core))

-- The number of acknowledgements that the requester has to await is that of the cores that are sent an invalidation.
abbrev pub AwaitsInvalidated : DirSends → Type 0
AwaitsInvalidated (dir_sends.Data acks) = acks ≡ 0
AwaitsInvalidated (dir_sends.DataAndInv acks invalidated) = acks ≡ count_of invalidated
AwaitsInvalidated _ = Unit {0}

-- The set has exactly the cores that pass the test.
abbrev pub HasExactly : ℕ → (ℕ → Bool) → Type 0
HasExactly cores test = (core : ℕ) → core < 64 → has cores core ≡ test core

-- A line in S has a sharer; one in I or M has none.
pub record HasSharersInS (state : DirState) (sharers : ℕ) : Type 0 where
  pub some : IsTrue (is_shared state) → sharers ≢ 0
  pub none : IsTrue (is_idle state || is_modified state) → sharers ≡ 0

-- whether a core is a sharer afterwards, by whether it was one
abbrev pub stays_sharer : Bool → DirState → Option CoreId → DirEvent → Bool → ℕ → Bool
stays_sharer false dir_states.I owner (dir_events.GetS reads) was core = core == reads.0
stays_sharer exclusive dir_states.S owner (dir_events.GetS reads) was core = was || core == reads.0
stays_sharer exclusive dir_states.M (Some owner) (dir_events.GetS reads) was core = core == owner.0 || core == reads.0
stays_sharer exclusive dir_states.S owner (dir_events.GetM writes) was core = false
stays_sharer exclusive dir_states.S owner (dir_events.PutS leaves) was core = was && not (core == leaves.0)
stays_sharer exclusive dir_states.S owner (dir_events.PutM leaves) was core = was && not (core == leaves.0)
stays_sharer exclusive dir_states.S_D owner (dir_events.PutS leaves) was core = was && not (core == leaves.0)
stays_sharer exclusive dir_states.S_D owner (dir_events.PutM leaves) was core = was && not (core == leaves.0)
stays_sharer _ _ _ _ was _ = was

abbrev pub is_sharer_after : Bool → DirState → Option CoreId → ℕ → DirEvent → ℕ → Bool
is_sharer_after exclusive state owner sharers event core =
    stays_sharer exclusive state owner event (has sharers core) core

-- Each core is sent one message at most, invalidations included.
abbrev pub SendsOneToEach : DirEvent → DirSends → Type 0
SendsOneToEach event sent = (core : ℕ) → core < 64 → messages_to event sent core ≤ 1

-- A line is forgotten only when its last sharer has left.
abbrev pub ForgetsNobody : DirState → DirState → ℕ → Type 0
ForgetsNobody state next sharers = IsTrue (is_shared state || is_awaited state) → IsTrue (is_idle next) → sharers ≡ 0

-- The directory waits for a block from when it forwards a GetS until the block comes home, and only then does one come.
pub record AwaitsHome (state : DirState) (event : DirEvent) (sent : DirSends) (next : DirState) : Type 0 where
  pub lasts : is_awaited next ≡ (is_some (forwarded_get_s sent) || is_awaited state && not (is_data_home event))
  pub comes : IsTrue (is_data_home event) → IsTrue (is_awaited state)

-- A core that asks for a line whose block is on its way home has to wait, and no other core.
abbrev pub has_to_wait : DirState → DirEvent → Bool
has_to_wait state event = is_awaited state && is_some (getter event)

-- The only copy is given exactly where the setting is on and a core asks to read a line that no core has.
abbrev pub GivesOnlyCopy : Bool → DirState → DirEvent → DirSends → Type 0
GivesOnlyCopy exclusive state event sent = sends_only_copy sent ≡ (exclusive && is_idle state && is_some (reader event))

-- ---- all laws

-- a row that obeys all laws
pub record IsLawful (exclusive : Bool) (state : DirState) (owner : Option CoreId) (sharers : ℕ) (event : DirEvent)
    (row : DirRow) : Type 0 where
  pub entry : HasOwnerInM state owner → has_entry row ≡ can_come state owner event
  pub owner_in_m : HasOwnerInM state owner → IfGo row (λ next owns shares sent writes. HasOwnerInM next owns)
  pub home : IfGo row (λ next owns shares sent writes. writes ≡ brings_home state owner event)
  pub served : IfGo row (λ next owns shares sent writes. Serves state owner event sent)
  pub replied : IfGo row (λ next owns shares sent writes. Replies event sent)
  pub known : IfGo row (λ next owns shares sent writes. KnowsRequester event owns shares)
  pub granted : IfGo row (λ next owns shares sent writes. GrantsWriting exclusive state owner event owns)
  pub invalidated : IfGo row (λ next owns shares sent writes. Invalidates state sharers event sent)
  pub acknowledgements : IfGo row (λ next owns shares sent writes. AwaitsInvalidated sent)
  pub shared : IfGo row
      (λ next owns shares sent writes. HasExactly shares (is_sharer_after exclusive state owner sharers event))
  pub sharers_in_s : IsOfSet event → HasSharersInS state sharers
      → IfGo row (λ next owns shares sent writes. HasSharersInS next shares)
  pub messages : IfGo row (λ next owns shares sent writes. SendsOneToEach event sent)
  pub idle : IfGo row (λ next owns shares sent writes. ForgetsNobody state next shares)
  pub awaited : IfGo row (λ next owns shares sent writes. AwaitsHome state event sent next)
  pub blocked : is_blocked row ≡ has_to_wait state event
  pub only_copy : IfGo row (λ next owns shares sent writes. GivesOnlyCopy exclusive state event sent)

-- The set has no core that there can't be.
abbrev pub IsSet : ℕ → Type 0
IsSet cores = (core : ℕ) → 64 ≤ core → has cores core ≡ false

abbrev pub invalidated_by : DirSends → ℕ
invalidated_by (dir_sends.DataAndInv acks invalidated) = invalidated
invalidated_by _ = 0

-- The row's sharers are such a set, and so are those whom it invalidates.
abbrev pub HasSets : DirRow → Type 0
HasSets row = IfGo row (λ next owns shares sent writes. IsSet shares × IsSet (invalidated_by sent))

-- an entry as a directory keeps it, and an event of a core that a set can have
pub record IsKept (state : DirState) (owner : Option CoreId) (sharers : ℕ) (event : DirEvent) : Type 0 where
  pub owner_in_m : HasOwnerInM state owner
  pub sharers_in_s : HasSharersInS state sharers
  pub core : IsOfSet event

-- the one row that obeys them
abbrev pub IsOnlyLawful : Bool → DirState → Option CoreId → ℕ → DirEvent → DirRow → Type 0
IsOnlyLawful exclusive state owner sharers event row =
    IsKept state owner sharers event → (other : DirRow) → HasSets other
    → IsLawful exclusive state owner sharers event other → other ≡ row
