-- The table of a directory, cell by cell: states down, events across. What is not listed has no entry.
-- It is this project's own profile, in the manner of the Primer's directory protocols (Sorin, Hill and Wood).
use Rattle.std.specs.Prelude.{ℕ, ◌==◌, Bool, true, false, if◌then◌else◌, Option, Some, None}
use Rattle.address_map.specs.declared.address.CoreId.{CoreId}
use Rattle.address_map.specs.CoreSet.{count_of, only, with, without}
use Rattle.directory_table.specs.declared.state.DirEntry.{DirEntry}
use Rattle.directory_table.specs.declared.state.DirState.{DirState}
use Rattle.directory_table.specs.declared.state.DirState.TheVariants as dir_states
use Rattle.directory_table.specs.declared.row.DirEvent.{DirEvent}
use Rattle.directory_table.specs.declared.row.DirEvent.TheVariants as dir_events
use Rattle.directory_table.specs.declared.row.DirSends.{DirSends}
use Rattle.directory_table.specs.declared.row.DirSends.TheVariants as dir_sends
use Rattle.directory_table.specs.declared.row.DirRow.{DirRow}
use Rattle.directory_table.specs.declared.row.DirRow.TheVariants as dir_rows

-- the row that leaves the home copy as it is, and the row that writes it
abbrev pub goes : DirState → Option CoreId → ℕ → DirSends → DirRow
goes state owner sharers sent =
    dir_rows.Go (record { state = state; owner = owner; sharers = sharers; sends = sent; writes_home = false })

abbrev pub goes_home : DirState → Option CoreId → ℕ → DirSends → DirRow
goes_home state owner sharers sent =
    dir_rows.Go (record { state = state; owner = owner; sharers = sharers; sends = sent; writes_home = true })

-- S, or I where no sharer is left
abbrev pub shared_by : ℕ → DirState
shared_by sharers = if sharers == 0 then dir_states.I else dir_states.S

-- the cell at a setting of the exclusive state, a state, an owner, the sharers and an event
abbrev pub cell : Bool → DirState → Option CoreId → ℕ → DirEvent → DirRow
-- I: no core has the line. A Put that comes late is only acknowledged.
cell true dir_states.I owner sharers (dir_events.GetS core) = goes dir_states.M (Some core) sharers dir_sends.DataE
cell false dir_states.I owner sharers (dir_events.GetS core) = goes dir_states.S owner (only core.0) (dir_sends.Data 0)
cell exclusive dir_states.I owner sharers (dir_events.GetM core) =
    goes dir_states.M (Some core) sharers (dir_sends.Data 0)
cell exclusive dir_states.I owner sharers (dir_events.PutS core) = goes dir_states.I owner sharers dir_sends.PutAck
cell exclusive dir_states.I owner sharers (dir_events.PutM core) = goes dir_states.I owner sharers dir_sends.PutAck
-- S: its sharers read the line. A writer awaits an acknowledgement of each other sharer.
cell exclusive dir_states.S owner sharers (dir_events.GetS core) =
    goes dir_states.S owner (with sharers core.0) (dir_sends.Data 0)
cell exclusive dir_states.S owner sharers (dir_events.GetM core) =
    goes dir_states.M (Some core) 0 (dir_sends.DataAndInv (count_of (without sharers core.0)) (without sharers core.0))
cell exclusive dir_states.S owner sharers (dir_events.PutS core) =
    goes (shared_by (without sharers core.0)) owner (without sharers core.0) dir_sends.PutAck
cell exclusive dir_states.S owner sharers (dir_events.PutM core) =
    goes (shared_by (without sharers core.0)) owner (without sharers core.0) dir_sends.PutAck
-- M: the owner has the line. It never asks for it, and gives it up by PutM; a Put of another comes late.
cell exclusive dir_states.M (Some owner) sharers (dir_events.GetS core) =
    if owner.0 == core.0 then dir_rows.NoEntry else
    goes dir_states.S_D None (with (only owner.0) core.0) (dir_sends.FwdGetS owner)
cell exclusive dir_states.M (Some owner) sharers (dir_events.GetM core) =
    if owner.0 == core.0 then dir_rows.NoEntry else goes dir_states.M (Some core) sharers (dir_sends.FwdGetM owner)
cell exclusive dir_states.M (Some owner) sharers (dir_events.PutS core) =
    if owner.0 == core.0 then dir_rows.NoEntry else goes dir_states.M (Some owner) sharers dir_sends.PutAck
cell exclusive dir_states.M (Some owner) sharers (dir_events.PutM core) =
    if owner.0 == core.0 then goes_home dir_states.I None sharers dir_sends.PutAck
    else goes dir_states.M (Some owner) sharers dir_sends.PutAck
-- S_D: the block is on its way home, and until it comes nobody else is served.
cell exclusive dir_states.S_D owner sharers (dir_events.GetS core) = dir_rows.Blocked
cell exclusive dir_states.S_D owner sharers (dir_events.GetM core) = dir_rows.Blocked
cell exclusive dir_states.S_D owner sharers (dir_events.PutS core) =
    goes dir_states.S_D owner (without sharers core.0) dir_sends.PutAck
cell exclusive dir_states.S_D owner sharers (dir_events.PutM core) =
    goes dir_states.S_D owner (without sharers core.0) dir_sends.PutAck
cell exclusive dir_states.S_D owner sharers
    dir_events.DataHome = goes_home (shared_by sharers) owner sharers dir_sends.Nothing
cell _ _ _ _ _ = dir_rows.NoEntry

abbrev pub row_of : Bool → DirEntry → DirEvent → DirRow
row_of exclusive entry event = cell exclusive entry.state entry.owner entry.sharers event
