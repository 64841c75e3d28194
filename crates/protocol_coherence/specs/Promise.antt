-- What is promised of every line that the machine reaches.
use Rattle.std.specs.Prelude.{◌≡◌, ◌<◌, ℕ, ◌&&◌, ◌||◌, Bool, true, false, not, IfSome, IsTrue, IsFalse}
use Rattle.address_map.specs.declared.block.Block.{Block}
use Rattle.cache_table.specs.CopyState.{is_leaving, is_readable, is_waiting, is_writer}
use Rattle.cache_table.specs.Law.{sends_data, sends_get, sends_home, sends_inv_ack, sends_put}
use Rattle.cache_table.specs.Row as Cache
use Rattle.cache_table.specs.declared.row.CacheEvent.{CacheEvent}
use Rattle.cache_table.specs.declared.row.CacheEvent.TheVariants as cache_events
use Rattle.cache_table.specs.declared.row.CacheSends.{CacheSends}
use Rattle.cache_table.specs.declared.row.CacheSends.TheVariants as cache_sends
use Rattle.cache_table.specs.declared.row.Row.{Row}
use Rattle.cache_table.specs.declared.row.Row.TheVariants as rows
use Rattle.cache_table.specs.declared.state.CopyState.{CopyState}
use Rattle.directory_table.specs.Law as DirectoryLaw
use Rattle.directory_table.specs.Law.{acknowledges_put, forwarded_to, is_awaited, is_sent_inv, requester}
use Rattle.directory_table.specs.Row as Directory
use Rattle.directory_table.specs.declared.row.DirEvent.{DirEvent}
use Rattle.directory_table.specs.declared.row.DirRow.{DirRow}
use Rattle.directory_table.specs.declared.row.DirRow.TheVariants as dir_rows
use Rattle.directory_table.specs.declared.row.DirSends.{DirSends}
use Rattle.directory_table.specs.declared.row.DirStep.{DirStep}
use Rattle.protocol_coherence.specs.Fit.{is_no_data, is_no_forward, is_no_request}
use Rattle.protocol_coherence.specs.Line.{Line, Look}
use Rattle.protocol_coherence.specs.LineSteps.{IsWithin, Reached, entry_of, is_asked_for, stands, stands_ack}

-- ---- one writer, or only readers

-- Where one core may write the line, no other core may read it.
abbrev pub HasOneWriter : ℕ → Line → Type 0
HasOneWriter cores line = (c d : ℕ) → c < cores → d < cores
    → IsTrue (is_writer (line.part c).look.state) → IsTrue (is_readable (line.part d).look.state) → c ≡ d

-- ---- no message without a row

-- The table has a row: it goes on, or the message has to wait.
abbrev pub is_entry : Row → Bool
is_entry rows.NoEntry = false
is_entry _ = true

-- The same of the directory's table.
abbrev pub is_directory_entry : DirRow → Bool
is_directory_entry dir_rows.NoEntry = false
is_directory_entry _ = true

-- The event is a message, and no access.
abbrev pub is_message : CacheEvent → Bool
is_message cache_events.Load = false
is_message cache_events.Write = false
is_message cache_events.Eviction = false
is_message _ = true

-- Each message at the front of its channel has a row, or is blocked: of a core, each Inv-Ack, and of the directory.
pub record HasRows (exclusive : Bool) (cores : ℕ) (line : Line) : Type 0 where
  pub turn : (c : ℕ) (event : CacheEvent) → c < cores → IsTrue (is_message event) → IsTrue (stands (line.part c) event)
      → IsTrue (is_entry (Cache.row_of (line.part c).look.state event))
  pub ack : (c d : ℕ) → c < cores → d < cores → IsTrue (stands_ack (line.part d) c)
      → IsTrue (is_entry
      (Cache.row_of (line.part c).look.state (cache_events.InvAck (line.part c).wants (line.part c).counted)))
  pub ack_for_core : (d : ℕ) → d < cores → IsTrue (line.part d).look.sent → (line.part d).owes_to < cores
  pub serve : (event : DirEvent) (home : Block) → IsWithin cores event → IsTrue (is_asked_for line event)
      → IsTrue (is_directory_entry (Directory.row_of exclusive (entry_of line home) event))

-- ---- room

-- Where an Inv is put, the forwarded channel is empty.
abbrev pub has_room_for_inv : Look → Bool
has_room_for_inv look = not look.inv && is_no_forward look.forward && not look.put_ack

-- Where a forwarded request is put, at most an Inv comes before it.
abbrev pub has_room_for_forward : Look → Bool
has_room_for_forward look = is_no_forward look.forward && not look.put_ack

-- Where a Put-Ack is put, at most one message is before it, and no Put-Ack.
abbrev pub has_room_for_put_ack : Look → Bool
has_room_for_put_ack look = not look.put_ack && not (look.inv && not (is_no_forward look.forward))

-- Each channel that a core's row sends to is empty.
pub record HasRoomAtTurn (cores : ℕ) (line : Line) (core : ℕ) (sent : CacheSends) : Type 0 where
  pub request : IsTrue (sends_get sent || sends_put sent) → IsTrue (is_no_request (line.part core).look.request)
  pub ack : IsTrue (sends_inv_ack sent) → IsFalse (line.part core).look.sent
  pub named : IsTrue (sends_data sent) → (line.part core).names < cores
  pub data_channel : IsTrue (sends_data sent) → IsTrue (is_no_data (line.part (line.part core).names).look.incoming)
  pub home : IsTrue (sends_home sent) → IsFalse line.home

-- Each channel that a row of the directory sends to has room, and what is put there overtakes nothing.
pub record HasRoomAtService (cores : ℕ) (line : Line) (event : DirEvent) (sent : DirSends) : Type 0 where
  pub data_channel : IsTrue (DirectoryLaw.sends_data sent) → IfSome (requester event)
      (λ core. IsTrue (is_no_data (line.part core.0).look.incoming))
  pub put_ack : IsTrue (acknowledges_put sent) → IfSome (requester event)
      (λ core. IsTrue (has_room_for_put_ack (line.part core.0).look))
  pub named : IfSome (forwarded_to sent) (λ owner. owner.0 < cores)
  pub forward : IfSome (forwarded_to sent) (λ owner. IsTrue (has_room_for_forward (line.part owner.0).look))
  pub inv : (core : ℕ) → core < cores → IsTrue (is_sent_inv sent core) → IsTrue (has_room_for_inv (line.part core).look)

-- Every step finds room for what it sends: so one place for each kind of message, in this order, is a channel. The row
-- of an Inv-Ack sends nothing.
pub record HasRoom (exclusive : Bool) (cores : ℕ) (line : Line) : Type 0 where
  pub turn : (c : ℕ) (event : CacheEvent) (next : CopyState) (sent : CacheSends) → c < cores
      → IsTrue (stands (line.part c) event)
      → Cache.row_of (line.part c).look.state event ≡ rows.Go next sent → HasRoomAtTurn cores line c sent
  pub ack : (state next : CopyState) (n k : ℕ) (sent : CacheSends)
      → Cache.row_of state (cache_events.InvAck n k) ≡ rows.Go next sent → sent ≡ cache_sends.Nothing
  pub serve : (event : DirEvent) (home : Block) (step : DirStep) → IsWithin cores event
      → IsTrue (is_asked_for line event) → Directory.row_of exclusive (entry_of line home) event ≡ dir_rows.Go step
      → HasRoomAtService cores line event step.sends

-- ---- nothing comes early

-- Data and Put-Ack come only after the core's request was taken.
pub record IsNotEarly (look : Look) : Type 0 where
  pub data_taken : IsFalse (is_no_data look.incoming) → IsTrue (is_no_request look.request)
  pub put_taken : IsTrue look.put_ack → IsTrue (is_no_request look.request)

-- That is so of every core.
abbrev pub NothingIsEarly : ℕ → Line → Type 0
NothingIsEarly cores line = (c : ℕ) → c < cores → IsNotEarly (line.part c).look

-- ---- nothing in flight

-- A core waits for nothing, and no message of its own or for it waits.
abbrev pub is_still : Look → Bool
is_still look =
    is_no_request look.request && is_no_data look.incoming && not look.inv && is_no_forward look.forward
    && not look.put_ack && not look.sent && not (is_waiting look.state) && not (is_leaving look.state)

-- Where nothing is in flight, the directory waits for nothing, and the owner in the entry has the only copy.
pub record IsSettled (cores : ℕ) (line : Line) : Type 0 where
  pub not_awaited : IsFalse line.home → ((c : ℕ) → c < cores → IsTrue (is_still (line.part c).look))
      → IsFalse (is_awaited line.directory)
  pub owner : IfSome line.owner (λ owner. IsTrue (is_still (line.part owner.0).look)
      → IsTrue (is_writer (line.part owner.0).look.state))

-- ---- the machine moves

-- Some run of two cores makes one of them a writer.
abbrev pub CanBeWritten : Bool → Type 0
CanBeWritten exclusive = (line : Line) × Reached exclusive 2 line × IsTrue (is_writer (line.part 0).look.state)

-- Some run of two cores lets both of them read.
abbrev pub CanBeRead : Bool → Type 0
CanBeRead exclusive = (line : Line) × Reached exclusive 2 line × IsTrue (is_readable (line.part 0).look.state)
    × IsTrue (is_readable (line.part 1).look.state)
