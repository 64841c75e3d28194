-- The table of a private cache, cell by cell: states down, events across. What is not listed has no entry.
-- It is this project's own profile, in the manner of the Primer's directory protocols (Sorin, Hill and Wood).
use Rattle.std.specs.Prelude.{ℕ, ◌+◌, ◌==◌, nat_lt, if◌then◌else◌, true, false}
use Rattle.cache_table.specs.declared.state.CopyState.{CopyState}
use Rattle.cache_table.specs.declared.state.CopyState.TheVariants as copy_states
use Rattle.cache_table.specs.declared.row.CacheEvent.{CacheEvent}
use Rattle.cache_table.specs.declared.row.CacheEvent.TheVariants as cache_events
use Rattle.cache_table.specs.declared.row.CacheSends.TheVariants as cache_sends
use Rattle.cache_table.specs.declared.row.Row.{Row}
use Rattle.cache_table.specs.declared.row.Row.TheVariants as rows

-- M where all n acknowledgements have come, and else the state that awaits the rest
abbrev pub row_by_count : ℕ → ℕ → CopyState → Row
row_by_count come n waits =
    if come == n then rows.Go copy_states.M cache_sends.Nothing
    else if nat_lt come n then rows.Go waits cache_sends.Nothing
    else rows.NoEntry

abbrev pub row_of : CopyState → CacheEvent → Row
-- nothing: a miss asks for the line
row_of copy_states.I cache_events.Load = rows.Go copy_states.IS_D cache_sends.GetS
row_of copy_states.I cache_events.Write = rows.Go copy_states.IM_AD cache_sends.GetM
-- a load missed: data are awaited, to be read or, as the only copy, also written
row_of copy_states.IS_D (cache_events.Data n k) = rows.Go copy_states.S cache_sends.Nothing
row_of copy_states.IS_D (cache_events.DataE true) = rows.Go copy_states.E cache_sends.Nothing
row_of copy_states.IS_D (cache_events.DataE false) = rows.Go copy_states.M cache_sends.Nothing
row_of copy_states.IS_D cache_events.Inv = rows.Blocked
row_of copy_states.IS_D cache_events.FwdGetS = rows.Blocked
row_of copy_states.IS_D cache_events.FwdGetM = rows.Blocked
-- a write missed: data are awaited, and n acknowledgements, of which k have come
row_of copy_states.IM_AD (cache_events.Data n k) = row_by_count k n copy_states.IM_A
row_of copy_states.IM_AD (cache_events.InvAck n k) = rows.Go copy_states.IM_AD cache_sends.Nothing
row_of copy_states.IM_AD cache_events.FwdGetS = rows.Blocked
row_of copy_states.IM_AD cache_events.FwdGetM = rows.Blocked
-- a write missed, and the data have come: the last acknowledgement gives M
row_of copy_states.IM_A (cache_events.InvAck n k) = row_by_count (k + 1) n copy_states.IM_A
row_of copy_states.IM_A cache_events.FwdGetS = rows.Blocked
row_of copy_states.IM_A cache_events.FwdGetM = rows.Blocked
-- a shared copy
row_of copy_states.S cache_events.Load = rows.Go copy_states.S cache_sends.Nothing
row_of copy_states.S cache_events.Write = rows.Go copy_states.SM_AD cache_sends.GetM
row_of copy_states.S cache_events.Eviction = rows.Go copy_states.SI_A cache_sends.PutS
row_of copy_states.S cache_events.Inv = rows.Go copy_states.I cache_sends.InvAckToRequester
-- a write to a shared copy: as for a write that missed, but the copy may be invalidated meanwhile
row_of copy_states.SM_AD (cache_events.Data n k) = row_by_count k n copy_states.SM_A
row_of copy_states.SM_AD (cache_events.InvAck n k) = rows.Go copy_states.SM_AD cache_sends.Nothing
row_of copy_states.SM_AD cache_events.Inv = rows.Go copy_states.IM_AD cache_sends.InvAckToRequester
row_of copy_states.SM_AD cache_events.FwdGetS = rows.Blocked
row_of copy_states.SM_AD cache_events.FwdGetM = rows.Blocked
row_of copy_states.SM_A (cache_events.InvAck n k) = row_by_count (k + 1) n copy_states.SM_A
row_of copy_states.SM_A cache_events.FwdGetS = rows.Blocked
row_of copy_states.SM_A cache_events.FwdGetM = rows.Blocked
-- the only copy, written (M) or clean (E)
row_of copy_states.M cache_events.Load = rows.Go copy_states.M cache_sends.Nothing
row_of copy_states.M cache_events.Write = rows.Go copy_states.M cache_sends.Nothing
row_of copy_states.M cache_events.Eviction = rows.Go copy_states.MI_A cache_sends.PutM
row_of copy_states.M cache_events.FwdGetS = rows.Go copy_states.S cache_sends.DataToRequesterAndHome
row_of copy_states.M cache_events.FwdGetM = rows.Go copy_states.I cache_sends.DataToRequester
row_of copy_states.E cache_events.Load = rows.Go copy_states.E cache_sends.Nothing
row_of copy_states.E cache_events.Write = rows.Go copy_states.M cache_sends.Nothing
row_of copy_states.E cache_events.Eviction = rows.Go copy_states.MI_A cache_sends.PutM
row_of copy_states.E cache_events.FwdGetS = rows.Go copy_states.S cache_sends.DataToRequesterAndHome
row_of copy_states.E cache_events.FwdGetM = rows.Go copy_states.I cache_sends.DataToRequester
-- evicted: the Put is not yet acknowledged
row_of copy_states.MI_A cache_events.FwdGetS = rows.Go copy_states.SI_A cache_sends.DataToRequesterAndHome
row_of copy_states.MI_A cache_events.FwdGetM = rows.Go copy_states.II_A cache_sends.DataToRequester
row_of copy_states.MI_A cache_events.PutAck = rows.Go copy_states.I cache_sends.Nothing
row_of copy_states.SI_A cache_events.Inv = rows.Go copy_states.II_A cache_sends.InvAckToRequester
row_of copy_states.SI_A cache_events.PutAck = rows.Go copy_states.I cache_sends.Nothing
row_of copy_states.II_A cache_events.PutAck = rows.Go copy_states.I cache_sends.Nothing
row_of _ _ = rows.NoEntry
