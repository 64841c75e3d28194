-- Laws of the table, in words that are not its cells. Each says of a fact about the copy when it holds afterwards: what
-- brings it about, and what ends it. Together they leave each row no choice.
use Rattle.std.specs.Prelude.{◌≡◌, ◌+◌, ◌==◌, ◌&&◌, ◌||◌, Bool, true, false, not, nat_le, IsTrue}
use Rattle.cache_table.specs.CopyState.{is_leaving, is_readable, is_waiting, is_writer}
use Rattle.cache_table.specs.declared.state.CopyState.{CopyState}
use Rattle.cache_table.specs.declared.state.CopyState.TheVariants as copy_states
use Rattle.cache_table.specs.declared.row.CacheEvent.{CacheEvent}
use Rattle.cache_table.specs.declared.row.CacheEvent.TheVariants as cache_events
use Rattle.cache_table.specs.declared.row.CacheSends.{CacheSends}
use Rattle.cache_table.specs.declared.row.CacheSends.TheVariants as cache_sends
use Rattle.cache_table.specs.declared.row.Row.{Row}
use Rattle.cache_table.specs.declared.row.Row.TheVariants as rows

-- Where the row goes on, its next state and what it sends have this property.
abbrev pub IfGo : Row → (CopyState → CacheSends → Type 0) → Type 0
IfGo (rows.Go next sent) P = P next sent
IfGo rows.Blocked P = Unit {0}
IfGo rows.NoEntry P = Unit {0}

abbrev pub has_entry : Row → Bool
has_entry rows.NoEntry = false
has_entry _ = true

abbrev pub is_blocked : Row → Bool
is_blocked rows.Blocked = true
is_blocked _ = false

-- ---- events

abbrev pub is_load : CacheEvent → Bool
is_load cache_events.Load = true
is_load _ = false

abbrev pub is_write : CacheEvent → Bool
is_write cache_events.Write = true
is_write _ = false

abbrev pub is_eviction : CacheEvent → Bool
is_eviction cache_events.Eviction = true
is_eviction _ = false

-- another core reads the line, and asks its holder for the data
abbrev pub is_read : CacheEvent → Bool
is_read cache_events.FwdGetS = true
is_read _ = false

-- another core writes the line, and asks its holder for the data
abbrev pub is_written : CacheEvent → Bool
is_written cache_events.FwdGetM = true
is_written _ = false

-- another core writes the line, and has shared copies invalidated
abbrev pub is_invalidated : CacheEvent → Bool
is_invalidated cache_events.Inv = true
is_invalidated _ = false

abbrev pub is_put_ack : CacheEvent → Bool
is_put_ack cache_events.PutAck = true
is_put_ack _ = false

abbrev pub brings_data : CacheEvent → Bool
brings_data (cache_events.Data n k) = true
brings_data (cache_events.DataE loads) = true
brings_data _ = false

-- data as the only copy, for loads alone
abbrev pub brings_clean : CacheEvent → Bool
brings_clean (cache_events.DataE loads) = loads
brings_clean _ = false

-- ---- states

abbrev pub is_clean : CopyState → Bool
is_clean copy_states.E = true
is_clean _ = false

-- the copy's data are the newest, and the home copy isn't: the only copy, in the array or on its way out
abbrev pub holds_data : CopyState → Bool
holds_data copy_states.MI_A = true
holds_data state = is_writer state

-- the copy is one of those that are invalidated when another core writes the line
abbrev pub is_sharer : CopyState → Bool
is_sharer copy_states.S = true
is_sharer copy_states.SM_AD = true
is_sharer copy_states.SI_A = true
is_sharer _ = false

-- a miss awaits its data
abbrev pub awaits_data : CopyState → Bool
awaits_data copy_states.IS_D = true
awaits_data copy_states.IM_AD = true
awaits_data copy_states.SM_AD = true
awaits_data _ = false

-- the miss asked for the right to write
abbrev pub asked_to_write : CopyState → Bool
asked_to_write copy_states.IM_AD = true
asked_to_write copy_states.IM_A = true
asked_to_write copy_states.SM_AD = true
asked_to_write copy_states.SM_A = true
asked_to_write _ = false

-- the miss asked for the right to read alone
abbrev pub asked_to_read : CopyState → Bool
asked_to_read state = is_waiting state && not (asked_to_write state)

-- ---- what an event does to a copy

-- an access for which the copy has no right
abbrev pub misses : CopyState → CacheEvent → Bool
misses state event = is_load event && not (is_readable state) || is_write event && not (is_writer state)

-- all has come that a write awaits: the data with each acknowledgement, or the last acknowledgement after the data. A
-- read may be given the only copy.
abbrev pub grants_writing : CopyState → CacheEvent → Bool
grants_writing state (cache_events.Data n k) = asked_to_write state && awaits_data state && k == n
grants_writing state (cache_events.InvAck n k) = asked_to_write state && not (awaits_data state) && k + 1 == n
grants_writing state (cache_events.DataE loads) = asked_to_read state
grants_writing state _ = false

-- the data have come that a read awaits
abbrev pub serves_read : CopyState → CacheEvent → Bool
serves_read state event = asked_to_read state && brings_data event

-- the miss has what it asked for
abbrev pub ends_miss : CopyState → CacheEvent → Bool
ends_miss state event = grants_writing state event || serves_read state event

-- the protocol can bring the event to a copy: an access or an eviction while nothing is under way, a request of another
-- core to the holder or the next one, an answer to a core that awaits it, with no more acknowledgements than there are
abbrev pub can_come : CopyState → CacheEvent → Bool
can_come state cache_events.Load = not (is_waiting state) && not (is_leaving state)
can_come state cache_events.Write = not (is_waiting state) && not (is_leaving state)
can_come state cache_events.Eviction = is_readable state && not (is_waiting state)
can_come state cache_events.FwdGetS = holds_data state || is_waiting state
can_come state cache_events.FwdGetM = holds_data state || is_waiting state
can_come state cache_events.Inv = is_sharer state || asked_to_read state
can_come state cache_events.PutAck = is_leaving state
can_come state (cache_events.Data n k) = asked_to_read state || asked_to_write state && awaits_data state && nat_le k n
can_come state (cache_events.InvAck n k) = asked_to_write state && (awaits_data state || nat_le (k + 1) n)
can_come state (cache_events.DataE loads) = asked_to_read state

-- the message has to wait: another core asks for the line while a miss is outstanding. Only an invalidation needn't
-- wait for a write.
abbrev pub has_to_wait : CopyState → CacheEvent → Bool
has_to_wait state event =
    is_waiting state && (is_read event || is_written event) || asked_to_read state && is_invalidated event

-- ---- messages

abbrev pub sends_data : CacheSends → Bool
sends_data cache_sends.DataToRequester = true
sends_data cache_sends.DataToRequesterAndHome = true
sends_data _ = false

abbrev pub sends_home : CacheSends → Bool
sends_home cache_sends.DataToRequesterAndHome = true
sends_home _ = false

abbrev pub sends_inv_ack : CacheSends → Bool
sends_inv_ack cache_sends.InvAckToRequester = true
sends_inv_ack _ = false

abbrev pub sends_get_m : CacheSends → Bool
sends_get_m cache_sends.GetM = true
sends_get_m _ = false

abbrev pub sends_get : CacheSends → Bool
sends_get cache_sends.GetS = true
sends_get sent = sends_get_m sent

abbrev pub sends_put_m : CacheSends → Bool
sends_put_m cache_sends.PutM = true
sends_put_m _ = false

abbrev pub sends_put : CacheSends → Bool
sends_put cache_sends.PutS = true
sends_put sent = sends_put_m sent

-- ---- laws

-- A core may write the line once all has come that its miss awaits, until it evicts the copy or another core asks for
-- the line. Until its first write the only copy is clean.
pub record MayWrite (state : CopyState) (event : CacheEvent) (next : CopyState) : Type 0 where
  pub right : is_writer next
      ≡ (grants_writing state event || is_writer state && not (is_eviction event || is_read event || is_written event))
  pub clean : is_clean next ≡ (brings_clean event || is_clean state && is_load event)

-- A core may read the line once its miss has what it asked for, until it evicts the copy or another core writes the
-- line.
abbrev pub MayRead : CopyState → CacheEvent → CopyState → Type 0
MayRead state event next =
    is_readable next
    ≡ (ends_miss state event || is_readable state
    && not (is_eviction event || is_invalidated event || is_written event))

-- A copy has the newest data from the right to write on, until it gives them to another core or its eviction is over.
abbrev pub HoldsData : CopyState → CacheEvent → CopyState → Type 0
HoldsData state event next =
    holds_data next
    ≡ (grants_writing state event || holds_data state && not (is_read event || is_written event || is_put_ack event))

-- A copy is a sharer from its data on, or from when another core reads what it held, until it is invalidated, its
-- eviction is over, or the data of its write come.
abbrev pub IsShared : CopyState → CacheEvent → CopyState → Type 0
IsShared state event next =
    is_sharer next
    ≡ (serves_read state event && not (grants_writing state event) || is_read event
    || is_sharer state && not (is_invalidated event || is_put_ack event || brings_data event))

-- A miss begins with an access that has no right, and lasts until it has what it asked for. Its data come once.
pub record Waits (state : CopyState) (event : CacheEvent) (next : CopyState) : Type 0 where
  pub miss : is_waiting next ≡ (misses state event || is_waiting state && not (ends_miss state event))
  pub data_missing : awaits_data next ≡ (misses state event || awaits_data state && not (brings_data event))
  pub to_write : asked_to_write next
      ≡ (misses state event && is_write event || asked_to_write state && not (ends_miss state event))

-- An eviction lasts until its Put is acknowledged.
abbrev pub Leaves : CopyState → CacheEvent → CopyState → Type 0
Leaves state event next = is_leaving next ≡ (is_eviction event || is_leaving state && not (is_put_ack event))

-- Data go out exactly for a forwarded request, from who holds them, and home too where the request only reads. One
-- acknowledgement goes out for each invalidation, from a sharer, and none otherwise.
pub record Answers (state : CopyState) (event : CacheEvent) (sent : CacheSends) : Type 0 where
  pub answer : sends_data sent ≡ (is_read event || is_written event)
  pub holder : IsTrue (sends_data sent) → IsTrue (holds_data state)
  pub home : sends_home sent ≡ is_read event
  pub acknowledgement : sends_inv_ack sent ≡ is_invalidated event
  pub sharer : IsTrue (sends_inv_ack sent) → IsTrue (is_sharer state)

-- A Get goes out exactly where a miss begins, to write if the access writes, and a Put exactly where an eviction
-- begins: with the block from the writer, and without it from a reader. So no core has two requests under way.
pub record Asks (state : CopyState) (event : CacheEvent) (sent : CacheSends) : Type 0 where
  pub miss : sends_get sent ≡ misses state event
  pub to_write : sends_get_m sent ≡ (misses state event && is_write event)
  pub eviction : sends_put sent ≡ is_eviction event
  pub block : sends_put_m sent ≡ (is_eviction event && is_writer state)

-- a row that obeys all laws
pub record IsLawful (state : CopyState) (event : CacheEvent) (row : Row) : Type 0 where
  pub entry : has_entry row ≡ can_come state event
  pub blocked : is_blocked row ≡ has_to_wait state event
  pub write_right : IfGo row (λ next sent. MayWrite state event next)
  pub read_right : IfGo row (λ next sent. MayRead state event next)
  pub held : IfGo row (λ next sent. HoldsData state event next)
  pub shared : IfGo row (λ next sent. IsShared state event next)
  pub miss : IfGo row (λ next sent. Waits state event next)
  pub eviction : IfGo row (λ next sent. Leaves state event next)
  pub answered : IfGo row (λ next sent. Answers state event sent)
  pub asked : IfGo row (λ next sent. Asks state event sent)

-- the one row that obeys them
abbrev pub IsOnlyLawful : CopyState → CacheEvent → Row → Type 0
IsOnlyLawful state event row = (other : Row) → IsLawful state event other → other ≡ row
