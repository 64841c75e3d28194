-- Cases of a private cache's events: what of their numbers makes a difference to the table.
use Rattle.std.specs.Prelude.{◌≡◌, ◌<◌, ℕ, ◌+◌, Bool, true, false, List, [], ◌∷◌, codes, if◌then◌else◌}
use Rattle.cache_table.specs.Row.{row_of}
use Rattle.cache_table.specs.declared.state.CopyState.{CopyState}
use Rattle.cache_table.specs.declared.state.CopyState.TheVariants as copy_states
use Rattle.cache_table.specs.declared.row.CacheEvent.{CacheEvent}
use Rattle.cache_table.specs.declared.row.CacheEvent.TheVariants as cache_events
use Rattle.cache_table.specs.declared.row.Row.{Row}
use Rattle.protocol_tables.specs.declared.cache_rows.CacheCase.{CacheCase}
use Rattle.protocol_tables.specs.declared.cache_rows.CacheCase.TheVariants as cases
use Rattle.protocol_tables.specs.declared.cache_rows.Counted.{Counted}
use Rattle.protocol_tables.specs.declared.cache_rows.Counted.TheVariants as counted

-- how k, the acknowledgements that have come, compares with n
abbrev pub Compares : Counted → (k n : ℕ) → Type 0
Compares counted.Equal k n = k ≡ n
Compares counted.Less k n = k < n
Compares counted.More k n = n < k

-- an event of each case
abbrev pub sample_of : CacheCase → CacheEvent
sample_of cases.Load = cache_events.Load
sample_of cases.Write = cache_events.Write
sample_of cases.Eviction = cache_events.Eviction
sample_of cases.FwdGetS = cache_events.FwdGetS
sample_of cases.FwdGetM = cache_events.FwdGetM
sample_of cases.Inv = cache_events.Inv
sample_of cases.PutAck = cache_events.PutAck
sample_of (cases.Data counted.Equal) = cache_events.Data 1 1
sample_of (cases.Data counted.Less) = cache_events.Data 1 0
sample_of (cases.Data counted.More) = cache_events.Data 0 1
sample_of (cases.InvAck counted.Equal) = cache_events.InvAck 1 0
sample_of (cases.InvAck counted.Less) = cache_events.InvAck 2 0
sample_of (cases.InvAck counted.More) = cache_events.InvAck 0 0
sample_of (cases.DataE all_loads) = cache_events.DataE all_loads

-- the name of a case
abbrev pub name_of_case : CacheCase → List ℕ
name_of_case cases.Load = codes "load"
name_of_case cases.Write = codes "write"
name_of_case cases.Eviction = codes "eviction"
name_of_case cases.FwdGetS = codes "Fwd-GetS"
name_of_case cases.FwdGetM = codes "Fwd-GetM"
name_of_case cases.Inv = codes "Inv"
name_of_case cases.PutAck = codes "Put-Ack"
name_of_case (cases.Data counted.Equal) = codes "Data, k = n"
name_of_case (cases.Data counted.Less) = codes "Data, k < n"
name_of_case (cases.Data counted.More) = codes "Data, k > n"
name_of_case (cases.InvAck counted.Equal) = codes "Inv-Ack, k + 1 = n"
name_of_case (cases.InvAck counted.Less) = codes "Inv-Ack, k + 1 < n"
name_of_case (cases.InvAck counted.More) = codes "Inv-Ack, k + 1 > n"
name_of_case (cases.DataE true) = codes "Data-E, loads alone"
name_of_case (cases.DataE false) = codes "Data-E, a write too"

-- the event is of the case
abbrev pub IsCase : CacheCase → CacheEvent → Type 0
IsCase (cases.Data how) (cache_events.Data n k) = Compares how k n
IsCase (cases.InvAck how) (cache_events.InvAck n k) = Compares how (k + 1) n
IsCase case event = event ≡ sample_of case

-- the row of a state at a case
abbrev pub rule_of : CopyState → CacheCase → Row
rule_of state case = row_of state (sample_of case)

-- ---- lists

-- the states to which a copy comes under a setting of the exclusive state
abbrev pub states_of : Bool → List CopyState
states_of exclusive =
    copy_states.I ∷ copy_states.IS_D ∷ copy_states.IM_AD ∷ copy_states.IM_A ∷ copy_states.S ∷ copy_states.SM_AD
    ∷ copy_states.SM_A ∷ copy_states.M ∷ copy_states.MI_A ∷ copy_states.SI_A ∷ copy_states.II_A
    ∷ (if exclusive then copy_states.E ∷ [] else [])

-- what a core does by itself
abbrev pub accesses : List CacheCase
accesses = cases.Load ∷ cases.Write ∷ cases.Eviction ∷ []

-- what it is sent: data as the only copy with the exclusive state alone
abbrev pub only_copy : List CacheCase
only_copy = cases.DataE true ∷ cases.DataE false ∷ []

abbrev pub messages_of : Bool → List CacheCase
messages_of exclusive =
    cases.FwdGetS ∷ cases.FwdGetM ∷ cases.Inv ∷ cases.PutAck
    ∷ cases.Data counted.Equal ∷ cases.Data counted.Less ∷ cases.Data counted.More
    ∷ cases.InvAck counted.Equal ∷ cases.InvAck counted.Less ∷ cases.InvAck counted.More
    ∷ (if exclusive then only_copy else [])
