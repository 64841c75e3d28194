-- The machine: one line with any number of cores. A step takes one row of one of the two tables, whose event is at
-- hand.
use Rattle.std.specs.Prelude.{◌≡◌, ◌<◌, ℕ, ◌+◌, ◌==◌, ◌&&◌, ◌||◌, Bool, true, false, not, None, if◌then◌else◌, IsTrue}
use Rattle.address_map.specs.declared.block.Block.{Block}
use Rattle.cache_table.specs.CopyState.{is_waiting}
use Rattle.cache_table.specs.Law.{sends_data, sends_home, sends_inv_ack}
use Rattle.cache_table.specs.Row as Cache
use Rattle.cache_table.specs.declared.state.CopyState.{CopyState}
use Rattle.cache_table.specs.declared.state.CopyState.TheVariants as copy_states
use Rattle.cache_table.specs.declared.row.CacheEvent.{CacheEvent}
use Rattle.cache_table.specs.declared.row.CacheEvent.TheVariants as cache_events
use Rattle.cache_table.specs.declared.row.CacheSends.{CacheSends}
use Rattle.cache_table.specs.declared.row.CacheSends.TheVariants as cache_sends
use Rattle.cache_table.specs.declared.row.Row.TheVariants as rows
use Rattle.directory_table.specs.Law.{forwarded_to, is_data_home, is_named, is_sent_inv, requester}
use Rattle.directory_table.specs.Row as Directory
use Rattle.directory_table.specs.declared.state.DirEntry.{DirEntry}
use Rattle.directory_table.specs.declared.state.DirState.TheVariants as dir_states
use Rattle.directory_table.specs.declared.row.DirEvent.{DirEvent}
use Rattle.directory_table.specs.declared.row.DirEvent.TheVariants as dir_events
use Rattle.directory_table.specs.declared.row.DirSends.{DirSends}
use Rattle.directory_table.specs.declared.row.DirSends.TheVariants as dir_sends
use Rattle.directory_table.specs.declared.row.DirStep.{DirStep}
use Rattle.directory_table.specs.declared.row.DirRow.TheVariants as dir_rows
use Rattle.protocol_coherence.specs.Fit.{is_fwd_get_m, is_fwd_get_s, is_get_m, is_get_s, is_only_data, is_put_m}
use Rattle.protocol_coherence.specs.Fit.{is_put_s, is_put_ack_first, is_shared_data}
use Rattle.protocol_coherence.specs.Line.{fwd_get_m, fwd_get_s, no_forward, no_data, only_data, shared_data, Line}
use Rattle.protocol_coherence.specs.Line.{Look, Part, Request, get_m, get_s, no_request, put_m, put_s}

-- ---- a private cache's turn

-- The event is at hand: any access is, and a message at the front of its channel.
abbrev pub stands : Part → CacheEvent → Bool
stands part (cache_events.Data n k) = is_shared_data part.look.incoming && n == part.wants && k == part.counted
stands part (cache_events.DataE loads) = is_only_data part.look.incoming
stands part cache_events.Inv = part.look.inv
stands part cache_events.FwdGetS = not part.look.inv && is_fwd_get_s part.look.forward
stands part cache_events.FwdGetM = not part.look.inv && is_fwd_get_m part.look.forward
stands part cache_events.PutAck = is_put_ack_first part.look
stands part (cache_events.InvAck n k) = false
stands part _ = true

-- An Inv-Ack from one core waits for the other.
abbrev pub stands_ack : Part → ℕ → Bool
stands_ack from core = from.look.sent && from.owes_to == core

-- The look once the event's message is taken.
abbrev pub look_after_take : CacheEvent → Look → Look
look_after_take (cache_events.Data n k) look = record look { incoming = no_data }
look_after_take (cache_events.DataE loads) look = record look { incoming = no_data }
look_after_take cache_events.Inv look = record look { inv = false }
look_after_take cache_events.FwdGetS look = record look { forward = no_forward }
look_after_take cache_events.FwdGetM look = record look { forward = no_forward }
look_after_take cache_events.PutAck look = record look { put_ack = false }
look_after_take _ look = look

-- The request channel once a row has sent this.
abbrev pub asks_for : CacheSends → Request → Request
asks_for cache_sends.GetS _ = get_s
asks_for cache_sends.GetM _ = get_m
asks_for cache_sends.PutS _ = put_s
asks_for cache_sends.PutM _ = put_m
asks_for _ waits = waits

-- The look after the row: the next state, and what is sent on the core's own channels.
abbrev pub look_after_row : CacheEvent → CopyState → CacheSends → Look → Look
look_after_row event next sent look =
    let took = look_after_take event look in
    record took { state = next; request = asks_for sent took.request; sent = took.sent || sends_inv_ack sent }

-- The part after the row. Acknowledgements are counted as long as a miss is outstanding.
abbrev pub part_after_row : CacheEvent → ℕ → CopyState → CacheSends → Part → Part
part_after_row event more next sent part =
    record part {
      look = look_after_row event next sent part.look;
      counted = if is_waiting next then part.counted + more else 0;
    }

-- The change, where the test holds.
abbrev pub change_if : Bool → (Part → Part) → Part → Part
change_if true change part = change part
change_if false change part = part

-- Data for whom a served forwarded request names. They name no acknowledgement.
abbrev pub part_with_data : Part → Part
part_with_data part = record part { look = record part.look { incoming = shared_data }; wants = 0 }

-- The line after a core's turn.
abbrev pub after_turn : Line → ℕ → CacheEvent → CopyState → CacheSends → Line
after_turn line core event next sent =
    record line {
      home = sends_home sent || line.home;
      part = λ other.
          change_if (sends_data sent && other == (line.part core).names) part_with_data
          (change_if (other == core) (part_after_row event 0 next sent) (line.part other));
    }

-- An Inv-Ack that is taken waits no more.
abbrev pub part_after_ack : Part → Part
part_after_ack part = record part { look = record part.look { sent = false } }

-- The line after a core has counted an Inv-Ack of another.
abbrev pub after_ack : Line → ℕ → ℕ → CopyState → CacheSends → Line
after_ack line core from next sent =
    record line {
      part = λ other.
          change_if (other == from) part_after_ack
          (change_if (other == core) (part_after_row (cache_events.InvAck 0 0) 1 next sent) (line.part other));
    }

-- ---- the directory's turn

-- The directory's entry, with a home copy, which the table doesn't read.
abbrev pub entry_of : Line → Block → DirEntry
entry_of line home = record { home = home; sharers = line.sharers; owner = line.owner; state = line.directory }

-- The event is at hand: the request of its core, or the block that comes home.
abbrev pub is_asked_for : Line → DirEvent → Bool
is_asked_for line (dir_events.GetS core) = is_get_s (line.part core.0).look.request
is_asked_for line (dir_events.GetM core) = is_get_m (line.part core.0).look.request
is_asked_for line (dir_events.PutS core) = is_put_s (line.part core.0).look.request
is_asked_for line (dir_events.PutM core) = is_put_m (line.part core.0).look.request
is_asked_for line dir_events.DataHome = line.home

-- The core that asks is one of the cores.
abbrev pub IsWithin : ℕ → DirEvent → Type 0
IsWithin cores (dir_events.GetS core) = core.0 < cores
IsWithin cores (dir_events.GetM core) = core.0 < cores
IsWithin cores (dir_events.PutS core) = core.0 < cores
IsWithin cores (dir_events.PutM core) = core.0 < cores
IsWithin cores dir_events.DataHome = Unit {0}

-- What the requester is sent.
abbrev pub part_after_answer : DirSends → Part → Part
part_after_answer (dir_sends.Data acks) part =
    record part { look = record part.look { request = no_request; incoming = shared_data }; wants = acks }
part_after_answer (dir_sends.DataAndInv acks invalidated) part =
    record part { look = record part.look { request = no_request; incoming = shared_data }; wants = acks }
part_after_answer dir_sends.DataE part =
    record part { look = record part.look { request = no_request; incoming = only_data }; wants = 0 }
part_after_answer dir_sends.PutAck part = record part { look = record part.look { request = no_request; put_ack = true } }
part_after_answer _ part = record part { look = record part.look { request = no_request } }

-- A forwarded request in the core's name.
abbrev pub part_after_forward : DirSends → ℕ → Part → Part
part_after_forward (dir_sends.FwdGetS owner) core part =
    record part { look = record part.look { forward = fwd_get_s }; names = core }
part_after_forward (dir_sends.FwdGetM owner) core part =
    record part { look = record part.look { forward = fwd_get_m }; names = core }
part_after_forward _ core part = part

-- An Inv in the core's name.
abbrev pub invalidated_by : ℕ → Part → Part
invalidated_by core part = record part { look = record part.look { inv = true }; owes_to = core }

-- The number of the core that asks.
abbrev pub who : DirEvent → ℕ
who (dir_events.GetS core) = core.0
who (dir_events.GetM core) = core.0
who (dir_events.PutS core) = core.0
who (dir_events.PutM core) = core.0
who dir_events.DataHome = 0

-- The line after the directory's row, with what the row sends to each core.
abbrev pub after_service : Line → DirEvent → DirStep → Line
after_service line event step =
    record {
      directory = step.state;
      owner = step.owner;
      sharers = step.sharers;
      home = not (is_data_home event) && line.home;
      part = λ other.
          change_if (is_sent_inv step.sends other) (invalidated_by (who event))
          (change_if (is_named (forwarded_to step.sends) other) (part_after_forward step.sends (who event))
          (change_if (is_named (requester event) other) (part_after_answer step.sends) (line.part other)));
    }

-- ---- steps

-- The steps out of a line, at a setting of the exclusive state.
pub data Step (exclusive : Bool) (cores : ℕ) (line : Line) : Type 0 where
  -- a core's access, or a message that it takes: its row says the next state and what is sent
  turn : (core : ℕ) (event : CacheEvent) (next : CopyState) (sent : CacheSends) → core < cores
      → IsTrue (stands (line.part core) event) → Cache.row_of (line.part core).look.state event ≡ rows.Go next sent
      → Step exclusive cores line
  -- a core takes the Inv-Ack of another
  count : (core from : ℕ) (next : CopyState) (sent : CacheSends) → core < cores → from < cores
      → IsTrue (stands_ack (line.part from) core)
      → Cache.row_of (line.part core).look.state (cache_events.InvAck (line.part core).wants (line.part core).counted)
      ≡ rows.Go next sent
      → Step exclusive cores line
  -- the directory serves a request, or takes the block that comes home
  serve : (event : DirEvent) (home : Block) (step : DirStep) → IsWithin cores event → IsTrue (is_asked_for line event)
      → Directory.row_of exclusive (entry_of line home) event ≡ dir_rows.Go step → Step exclusive cores line

-- The line after a step.
abbrev pub after : {exclusive : Bool} {cores : ℕ} {line : Line} → Step exclusive cores line → Line
after {line = line} (turn core event next sent within here row) = after_turn line core event next sent
after {line = line} (count core from next sent within sender here row) = after_ack line core from next sent
after {line = line} (serve event home step within here row) = after_service line event step

-- ---- runs

-- A core that has nothing of the line, and no message.
abbrev pub idle : Part
idle = record {
  look = record {
    state = copy_states.I;
    request = no_request;
    incoming = no_data;
    inv = false;
    forward = no_forward;
    put_ack = false;
    sent = false;
  };
  owes_to = 0;
  names = 0;
  wants = 0;
  counted = 0;
}

-- No core has the line, and nothing is in flight.
abbrev pub first : Line
first = record { directory = dir_states.I; owner = None; sharers = 0; home = false; part = λ core. idle }

-- What the line can come to, by any steps in any order.
pub data Reached (exclusive : Bool) (cores : ℕ) : Line → Type 0 where
  beginning : Reached exclusive cores first
  further : {line : Line} → Reached exclusive cores line → (step : Step exclusive cores line)
      → Reached exclusive cores (after step)
