-- The cells of a private cache's table as values of JSON, one a line.
use Rattle.std.specs.Prelude.{◌||◌, ℕ, Bool, true, false, List, ◌++◌, codes, if◌then◌else◌}
use Rattle.std.specs.List.{flat_map}
use Rattle.cache_table.specs.CopyState.{is_leaving, is_waiting}
use Rattle.cache_table.specs.Name.{name_of}
use Rattle.cache_table.specs.declared.state.CopyState.{CopyState}
use Rattle.cache_table.specs.declared.state.CopyState.TheVariants as copy_states
use Rattle.cache_table.specs.declared.row.CacheSends.{CacheSends}
use Rattle.cache_table.specs.declared.row.CacheSends.TheVariants as cache_sends
use Rattle.cache_table.specs.declared.row.Row.{Row}
use Rattle.cache_table.specs.declared.row.Row.TheVariants as rows
use Rattle.protocol_tables.specs.CacheRows.{accesses, messages_of, rule_of, states_of}
use Rattle.protocol_tables.specs.declared.cache_rows.CacheCase.{CacheCase}
use Rattle.protocol_tables.specs.declared.cache_rows.CacheCase.TheVariants as cases
use Rattle.protocol_tables.specs.declared.cache_rows.Counted.TheVariants as counted

-- the event's name
abbrev pub event_of : CacheCase → List ℕ
event_of cases.Load = codes "load"
event_of cases.Write = codes "write"
event_of cases.Eviction = codes "eviction"
event_of cases.FwdGetS = codes "Fwd-GetS"
event_of cases.FwdGetM = codes "Fwd-GetM"
event_of cases.Inv = codes "Inv"
event_of cases.PutAck = codes "Put-Ack"
event_of (cases.Data how) = codes "Data"
event_of (cases.InvAck how) = codes "Inv-Ack"
event_of (cases.DataE all_loads) = codes "Data-E"

-- what is said of it besides: how its numbers compare, or what the miss register holds
abbrev pub guard_of : CacheCase → List ℕ
guard_of (cases.Data counted.Equal) = codes "{\"numbers\":\"k = n\"}"
guard_of (cases.Data counted.Less) = codes "{\"numbers\":\"k < n\"}"
guard_of (cases.Data counted.More) = codes "{\"numbers\":\"k > n\"}"
guard_of (cases.InvAck counted.Equal) = codes "{\"numbers\":\"k + 1 = n\"}"
guard_of (cases.InvAck counted.Less) = codes "{\"numbers\":\"k + 1 < n\"}"
guard_of (cases.InvAck counted.More) = codes "{\"numbers\":\"k + 1 > n\"}"
guard_of (cases.DataE true) = codes "{\"targets\":\"loads alone\"}"
guard_of (cases.DataE false) = codes "{\"targets\":\"a write too\"}"
guard_of _ = codes "{}"

-- what is sent, and to whom
abbrev pub sends_of : CacheSends → List ℕ
sends_of cache_sends.Nothing = codes ""
sends_of cache_sends.GetS = codes "{\"send\":\"GetS\",\"to\":\"directory\"}"
sends_of cache_sends.GetM = codes "{\"send\":\"GetM\",\"to\":\"directory\"}"
sends_of cache_sends.PutS = codes "{\"send\":\"PutS\",\"to\":\"directory\"}"
sends_of cache_sends.PutM = codes "{\"send\":\"PutM\",\"to\":\"directory\",\"with\":\"block\"}"
sends_of cache_sends.InvAckToRequester = codes "{\"send\":\"Inv-Ack\",\"to\":\"requester\"}"
sends_of cache_sends.DataToRequester =
    codes "{\"send\":\"Data\",\"to\":\"requester\",\"with\":\"block\",\"acknowledgements\":\"none\"}"
sends_of cache_sends.DataToRequesterAndHome =
    codes "{\"send\":\"Data\",\"to\":\"requester\",\"with\":\"block\",\"acknowledgements\":\"none\"},{\"send\":\"Data\",\"to\":\"directory\",\"with\":\"block\"}"

-- what a row does: an access that sends nothing is a hit, and an acknowledgement is counted
abbrev pub effects_of : CacheCase → CacheSends → List ℕ
effects_of cases.Load cache_sends.Nothing = codes "{\"do\":\"hit\"}"
effects_of cases.Write cache_sends.Nothing = codes "{\"do\":\"hit\"}"
effects_of (cases.InvAck how) sent = codes "{\"do\":\"count\"}"
effects_of case sent = sends_of sent

-- where the table has no row: the event never comes, or the access joins, stalls or is refused
abbrev pub none_of : CopyState → CacheCase → List ℕ
none_of state cases.Load = if is_waiting state then codes "joins" else codes "stalls"
none_of state cases.Write = if is_waiting state then codes "joins" else codes "stalls"
none_of state cases.Eviction = if is_waiting state || is_leaving state then codes "busy" else codes "not held"
none_of state _ = codes "never"

-- where the message waits: without the exclusive state no request is forwarded to a reader
abbrev pub waits_of : Bool → CopyState → CacheCase → List ℕ
waits_of false copy_states.IS_D cases.FwdGetS = codes "never"
waits_of false copy_states.IS_D cases.FwdGetM = codes "never"
waits_of _ _ _ = codes "blocked"

-- what a cell says of its row
abbrev pub said_of : Bool → CopyState → CacheCase → Row → List ℕ
said_of exclusive state case (rows.Go next sent) =
    codes "\"row\":\"go\",\"effects\":[" ++ (effects_of case sent ++ (codes "],\"next\":{\"state\":\""
    ++ (name_of next ++ codes "\"}}\n")))
said_of exclusive state case rows.Blocked = codes "\"row\":\"" ++ (waits_of exclusive state case ++ codes "\"}\n")
said_of exclusive state case rows.NoEntry = codes "\"row\":\"" ++ (none_of state case ++ codes "\"}\n")

-- what it begins with
abbrev pub begin_of : CopyState → CacheCase → List ℕ
begin_of state case =
    codes "{\"table\":\"cache\",\"state\":\"" ++ (name_of state ++ (codes "\",\"event\":\"" ++ (event_of case
    ++ (codes "\",\"guard\":" ++ (guard_of case ++ codes ",")))))

-- the value of a cell
abbrev pub line_of : Bool → CopyState → CacheCase → Row → List ℕ
line_of exclusive state case row = begin_of state case ++ said_of exclusive state case row

-- the values of a state at these events
abbrev pub lines_of : Bool → CopyState → List CacheCase → List ℕ
lines_of exclusive state these = flat_map (λ case. line_of exclusive state case (rule_of state case)) these

abbrev pub cells_at : Bool → CopyState → List ℕ
cells_at exclusive state = lines_of exclusive state accesses ++ lines_of exclusive state (messages_of exclusive)

-- of these states
abbrev pub state_lines : Bool → List CopyState → List ℕ
state_lines exclusive these = flat_map (cells_at exclusive) these

-- of all to which a copy comes under the setting
abbrev pub cells_of : Bool → List ℕ
cells_of exclusive = state_lines exclusive (states_of exclusive)
