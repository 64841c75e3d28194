-- The table of a private cache as text: a part for what a core does and is asked for, and one for what answers it. Each
-- has a heading, and a line for each state with a cell for each event.
use Rattle.std.specs.Prelude.{◌&&◌, ◌||◌, Bool, true, false, not, ℕ, List, [], ◌∷◌, ◌++◌, codes, map, Option, Some}
use Rattle.std.specs.Prelude.{None, unwrap_or, if◌then◌else◌}
use Rattle.std.specs.Borrow.{Bor}
use Rattle.std.specs.List.{flat_map}
use Rattle.cache_table.specs.CopyState.{is_leaving, is_waiting}
use Rattle.cache_table.specs.Law.{asked_to_read, is_clean, is_eviction, is_load, is_read, is_write, is_written}
use Rattle.cache_table.specs.Name.{name_of}
use Rattle.cache_table.specs.Row.{row_of}
use Rattle.cache_table.specs.declared.state.CopyState.{CopyState}
use Rattle.cache_table.specs.declared.state.CopyState.TheVariants as copy_states
use Rattle.cache_table.specs.declared.row.CacheEvent.{CacheEvent}
use Rattle.cache_table.specs.declared.row.CacheEvent.TheVariants as cache_events
use Rattle.cache_table.specs.declared.row.CacheSends.{CacheSends}
use Rattle.cache_table.specs.declared.row.CacheSends.TheVariants as cache_sends
use Rattle.cache_table.specs.declared.row.Row.{Row}
use Rattle.cache_table.specs.declared.row.Row.TheVariants as rows

-- ---- cells

-- what is sent, each after the one before
abbrev pub text_of_sends : CacheSends → List ℕ
text_of_sends cache_sends.Nothing = codes ""
text_of_sends cache_sends.GetS = codes "GetS; "
text_of_sends cache_sends.GetM = codes "GetM; "
text_of_sends cache_sends.PutS = codes "PutS; "
text_of_sends cache_sends.PutM = codes "PutM; "
text_of_sends cache_sends.InvAckToRequester = codes "Inv-Ack; "
text_of_sends cache_sends.DataToRequester = codes "Data(0); "
text_of_sends cache_sends.DataToRequesterAndHome = codes "Data(0), Data home; "

-- what is done where the row goes on: an access that sends nothing is a hit, and an acknowledgement is counted
abbrev pub text_of_effect : CacheEvent → CacheSends → List ℕ
text_of_effect cache_events.Load cache_sends.Nothing = codes "hit; "
text_of_effect cache_events.Write cache_sends.Nothing = codes "hit; "
text_of_effect (cache_events.InvAck n k) sent = codes "k + 1; "
text_of_effect event sent = text_of_sends sent

-- where the table has no row: an eviction is refused, since there is no copy, and anything else never comes
abbrev pub text_of_none : CacheEvent → List ℕ
text_of_none event = if is_eviction event then codes "not held" else codes "-"

-- a row at an event: what is done, and the next state
abbrev pub text_of_row : CacheEvent → Row → List ℕ
text_of_row event (rows.Go next sent) = text_of_effect event sent ++ name_of next
text_of_row event rows.Blocked = codes "blocked"
text_of_row event rows.NoEntry = text_of_none event

-- what becomes of an access or an eviction that never comes to the table: the line has a miss register, or leaves
abbrev pub before_the_table : CopyState → CacheEvent → Option (List ℕ)
before_the_table state event =
    if (is_load event || is_write event) && is_waiting state then Some (codes "joins")
    else if (is_load event || is_write event) && is_leaving state then Some (codes "stalls")
    else if is_eviction event && (is_waiting state || is_leaving state) then Some (codes "busy")
    else None

-- Without the exclusive state no reader becomes the owner of its line, so no request is forwarded to it.
abbrev pub needs_exclusive : CopyState → CacheEvent → Bool
needs_exclusive state event = asked_to_read state && (is_read event || is_written event)

-- what the table says, and a dash where the event doesn't come to the state under this setting
abbrev pub text_under : Bool → CopyState → CacheEvent → List ℕ
text_under exclusive state event =
    if not exclusive && needs_exclusive state event then codes "-" else text_of_row event (row_of state event)

-- the cell of a state and an event
abbrev pub text_of_cell : Bool → CopyState → CacheEvent → List ℕ
text_of_cell exclusive state event = unwrap_or (before_the_table state event) (text_under exclusive state event)

-- ---- columns

-- a column: its title and its event
abbrev pub Column : Type 0
Column = List ℕ × CacheEvent

-- columns as the code has them, wherever their titles lie in memory
abbrev pub columns_of : List (Bor (List ℕ) × CacheEvent) → List Column
columns_of columns = map (λ column. (column.0.now, column.1)) columns

-- what a core does, and what is asked of it
abbrev pub request_columns : List Column
request_columns =
    (codes "load", cache_events.Load) ∷ (codes "write", cache_events.Write) ∷ (codes "eviction", cache_events.Eviction)
    ∷ (codes "Fwd-GetS", cache_events.FwdGetS) ∷ (codes "Fwd-GetM", cache_events.FwdGetM)
    ∷ (codes "Inv", cache_events.Inv)
    ∷ (codes "Put-Ack", cache_events.PutAck) ∷ []

-- data as the only copy, which only the exclusive state brings
abbrev pub only_copy : List Column
only_copy =
    (codes "Data-E (exclusive on), loads alone", cache_events.DataE true)
    ∷ (codes "Data-E (exclusive on), a write too", cache_events.DataE false) ∷ []

-- the messages that answer a core
abbrev pub answer_columns : Bool → List Column
answer_columns exclusive =
    (codes "Data, k = n", cache_events.Data 1 1) ∷ (codes "Data, k < n", cache_events.Data 1 0)
    ∷ (codes "Data, k > n", cache_events.Data 0 1)
    ∷ (codes "Inv-Ack, k + 1 = n", cache_events.InvAck 1 0) ∷ (codes "Inv-Ack, k + 1 < n", cache_events.InvAck 2 0)
    ∷ (codes "Inv-Ack, k + 1 > n", cache_events.InvAck 0 0) ∷ (if exclusive then only_copy else [])

-- the titles, and the line below them
abbrev pub titles_of : List Column → List ℕ
titles_of columns = flat_map (λ column. codes " " ++ column.0 ++ codes " |") columns

abbrev pub rules_of : List Column → List ℕ
rules_of columns = flat_map (λ column. codes "---|") columns

abbrev pub heading_of : List Column → List ℕ
heading_of columns = codes "| Cache |" ++ titles_of columns ++ codes "\n|---|" ++ rules_of columns ++ codes "\n"

-- ---- lines

-- the states in the order of the lines
abbrev pub all_states : List CopyState
all_states =
    copy_states.I ∷ copy_states.IS_D ∷ copy_states.IM_AD ∷ copy_states.IM_A ∷ copy_states.S ∷ copy_states.SM_AD
    ∷ copy_states.SM_A ∷ copy_states.M ∷ copy_states.E
    ∷ copy_states.MI_A ∷ copy_states.SI_A ∷ copy_states.II_A ∷ []

-- the setting without which no copy comes to the state
abbrev pub setting_of : CopyState → List ℕ
setting_of state = if is_clean state then codes " (exclusive on)" else codes ""

-- the cells of a state
abbrev pub cells_of : Bool → CopyState → List Column → List ℕ
cells_of exclusive state columns =
    flat_map (λ column. codes " " ++ text_of_cell exclusive state column.1 ++ codes " |") columns

-- the line of a state, and that there is none of a state to which no copy comes under the setting
abbrev pub shown_line : Bool → List Column → CopyState → List ℕ
shown_line exclusive columns state =
    codes "| " ++ name_of state ++ setting_of state ++ codes " |" ++ cells_of exclusive state columns ++ codes "\n"

abbrev pub line_of : Bool → List Column → CopyState → List ℕ
line_of exclusive columns state = if not exclusive && is_clean state then [] else shown_line exclusive columns state

-- the lines of these states
abbrev pub lines_of : Bool → List Column → List CopyState → List ℕ
lines_of exclusive columns these = flat_map (line_of exclusive columns) these

-- a heading and the lines
abbrev pub part_of : Bool → List Column → List ℕ
part_of exclusive columns = heading_of columns ++ lines_of exclusive columns all_states

-- both parts, with an empty line between them
abbrev pub table_of : Bool → List ℕ
table_of exclusive = part_of exclusive request_columns ++ codes "\n" ++ part_of exclusive (answer_columns exclusive)
