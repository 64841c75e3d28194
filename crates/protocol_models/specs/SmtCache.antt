-- The queries of a private cache. Each is the text of one row.
use Rattle.std.specs.Prelude.{ℕ, Bool, true, false, List, [], ◌++◌, codes}
use Rattle.std.specs.List.{flat_map}
use Rattle.cache_table.specs.Name.{name_of}
use Rattle.cache_table.specs.declared.state.CopyState.{CopyState}
use Rattle.cache_table.specs.declared.row.CacheSends.{CacheSends}
use Rattle.cache_table.specs.declared.row.CacheSends.TheVariants as cache_sends
use Rattle.cache_table.specs.declared.row.Row.{Row}
use Rattle.cache_table.specs.declared.row.Row.TheVariants as rows
use Rattle.protocol_tables.specs.Cache.{text_of_effect}
use Rattle.protocol_tables.specs.CacheRows.{accesses, messages_of, name_of_case, rule_of, sample_of, states_of}
use Rattle.protocol_tables.specs.declared.cache_rows.CacheCase.{CacheCase}
use Rattle.protocol_tables.specs.declared.cache_rows.CacheCase.TheVariants as cases
use Rattle.protocol_tables.specs.declared.cache_rows.Counted.TheVariants as counted

-- ---- words

-- the event's name in the queries
abbrev pub event_name : CacheCase → List ℕ
event_name cases.Load = codes "load"
event_name cases.Write = codes "write"
event_name cases.Eviction = codes "eviction"
event_name cases.FwdGetS = codes "take-Fwd-GetS"
event_name cases.FwdGetM = codes "take-Fwd-GetM"
event_name cases.Inv = codes "take-Inv"
event_name cases.PutAck = codes "take-Put-Ack"
event_name (cases.Data counted.Equal) = codes "take-Data-all"
event_name (cases.Data counted.Less) = codes "take-Data-some"
event_name (cases.Data counted.More) = codes "take-Data-past"
event_name (cases.InvAck counted.Equal) = codes "take-Inv-Ack-all"
event_name (cases.InvAck counted.Less) = codes "take-Inv-Ack-some"
event_name (cases.InvAck counted.More) = codes "take-Inv-Ack-past"
event_name (cases.DataE true) = codes "take-Data-E-loads"
event_name (cases.DataE false) = codes "take-Data-E-write"

-- what a row sends
abbrev pub sends_name : CacheSends → List ℕ
sends_name cache_sends.Nothing = codes "nothing"
sends_name cache_sends.GetS = codes "send-GetS"
sends_name cache_sends.GetM = codes "send-GetM"
sends_name cache_sends.PutS = codes "send-PutS"
sends_name cache_sends.PutM = codes "send-PutM"
sends_name cache_sends.InvAckToRequester = codes "send-Inv-Ack"
sends_name cache_sends.DataToRequester = codes "send-Data"
sends_name cache_sends.DataToRequesterAndHome = codes "send-Data-and-home"

-- ---- queries

-- a cell's name
abbrev pub cell_name : CopyState → CacheCase → List ℕ
cell_name state case = name_of state ++ codes ", " ++ name_of_case case

-- an event at a state, and what a row sends with the next state, in the queries
abbrev pub at_of : CopyState → CacheCase → List ℕ
at_of state case = name_of state ++ codes " " ++ event_name case

abbrev pub step_of : CopyState → CacheSends → List ℕ
step_of next sent = sends_name sent ++ codes " " ++ name_of next

-- where a cell has no row: whether the message can come. What a core does by itself joins, stalls or is refused then.
abbrev pub never_of : CopyState → CacheCase → List ℕ
never_of state cases.Load = []
never_of state cases.Write = []
never_of state cases.Eviction = []
never_of state case =
    codes "; " ++ (cell_name state case
    ++ (codes ": -\n(push 1)\n(assert (invariant before))\n(assert (cache-event "
    ++ (at_of state case ++ codes "))\n(check-sat)\n(pop 1)\n\n")))

-- the query of a state and an event, by their row: whether the invariant holds before it and not after it
abbrev pub query_of : CopyState → CacheCase → Row → List ℕ
query_of state case (rows.Go next sent) =
    codes "; " ++ (cell_name state case ++ (codes ": "
    ++ (text_of_effect (sample_of case) sent ++ (name_of next
    ++ (codes "\n(push 1)\n(assert (invariant before))\n(assert (cache-row "
    ++ (at_of state case ++ (codes " " ++ (step_of next sent
    ++ codes "))\n(assert (not kept))\n(check-sat)\n(pop 1)\n\n"))))))))
query_of state case rows.Blocked = codes "; " ++ (cell_name state case ++ codes ": blocked\n\n")
query_of state case rows.NoEntry = never_of state case

-- the queries of a state at these events
abbrev pub cells_of : CopyState → List CacheCase → List ℕ
cells_of state these = flat_map (λ case. query_of state case (rule_of state case)) these

-- at what its core does by itself, and at what it is sent
abbrev pub state_queries_of : Bool → CopyState → List ℕ
state_queries_of exclusive state = cells_of state accesses ++ cells_of state (messages_of exclusive)

-- the queries of these states
abbrev pub states_queries : Bool → List CopyState → List ℕ
states_queries exclusive these = flat_map (state_queries_of exclusive) these

-- the queries of all states to which a copy comes under the setting
abbrev pub queries_of : Bool → List ℕ
queries_of exclusive = states_queries exclusive (states_of exclusive)
