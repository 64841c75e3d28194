-- The table of a directory as text, at sample entries: core r asks, o owns the line or owned it last, x is another
-- core.
use Rattle.std.specs.Prelude.{◌==◌, Bool, true, false, ℕ, List, [], ◌∷◌, ◌++◌, codes, decimal, Option, Some, None}
use Rattle.std.specs.Prelude.{if◌then◌else◌}
use Rattle.std.specs.List.{flat_map}
use Rattle.address_map.specs.CoreSet.{members, only, with}
use Rattle.address_map.specs.declared.address.CoreId.{CoreId}
use Rattle.directory_table.specs.Name.{name_of}
use Rattle.directory_table.specs.Row.{cell}
use Rattle.directory_table.specs.declared.state.DirState.{DirState}
use Rattle.directory_table.specs.declared.state.DirState.TheVariants as dir_states
use Rattle.directory_table.specs.declared.row.DirEvent.{DirEvent}
use Rattle.directory_table.specs.declared.row.DirEvent.TheVariants as dir_events
use Rattle.directory_table.specs.declared.row.DirRow.{DirRow}
use Rattle.directory_table.specs.declared.row.DirRow.TheVariants as dir_rows
use Rattle.directory_table.specs.declared.row.DirSends.{DirSends}
use Rattle.directory_table.specs.declared.row.DirSends.TheVariants as dir_sends
use Rattle.protocol_tables.specs.declared.directory.Holders.{Holders}

-- ---- cores

-- the three cores
abbrev pub o : CoreId
o = record { 0 = 0 }

abbrev pub r : CoreId
r = record { 0 = 1 }

abbrev pub x : CoreId
x = record { 0 = 2 }

abbrev pub letter_of : ℕ → List ℕ
letter_of core = if core == 0 then codes "o" else if core == 1 then codes "r" else codes "x"

-- these cores, each after a comma
abbrev pub further_cores : List ℕ → List ℕ
further_cores cores = flat_map (λ core. codes ", " ++ letter_of core) cores

-- these cores with commas between them, or nobody
abbrev pub text_of_cores : List ℕ → List ℕ
text_of_cores [] = codes "nobody"
text_of_cores (core ∷ cores) = letter_of core ++ further_cores cores

-- ---- cells

-- an entry: its state with the owner, or with the sharers if it has any
abbrev pub text_of_entry : DirState → Option CoreId → ℕ → List ℕ
text_of_entry state (Some owner) sharers = name_of state ++ codes ", owner " ++ letter_of owner.0
text_of_entry state None sharers =
    if sharers == 0 then name_of state else name_of state ++ codes ", sharers " ++ text_of_cores (members sharers)

-- what is sent
abbrev pub text_of_sends : DirSends → List ℕ
text_of_sends dir_sends.Nothing = codes ""
text_of_sends (dir_sends.Data acks) = codes "Data(" ++ decimal acks ++ codes "); "
text_of_sends dir_sends.DataE = codes "Data-E; "
text_of_sends (dir_sends.DataAndInv acks invalidated) =
    codes "Data(" ++ decimal acks ++ codes "), Inv to " ++ text_of_cores (members invalidated) ++ codes "; "
text_of_sends (dir_sends.FwdGetS owner) = codes "Fwd-GetS to " ++ letter_of owner.0 ++ codes "; "
text_of_sends (dir_sends.FwdGetM owner) = codes "Fwd-GetM to " ++ letter_of owner.0 ++ codes "; "
text_of_sends dir_sends.PutAck = codes "Put-Ack; "

-- whether the block becomes the home copy
abbrev pub text_of_home : Bool → List ℕ
text_of_home writes = if writes then codes "block home; " else codes ""

-- a row: what is sent, whether the home copy is written, and the entry afterwards
abbrev pub text_of_row : DirRow → List ℕ
text_of_row (dir_rows.Go step) =
    text_of_sends step.sends ++ (text_of_home step.writes_home ++ text_of_entry step.state step.owner step.sharers)
text_of_row dir_rows.Blocked = codes "blocked"
text_of_row dir_rows.NoEntry = codes "-"

-- ---- lines

-- the events in the order of the columns
abbrev pub all_events : List DirEvent
all_events = dir_events.GetS r ∷ dir_events.GetM r ∷ dir_events.PutS r ∷ dir_events.PutM r ∷ dir_events.DataHome ∷ []

-- the heading, and the line below it
abbrev pub heading : List ℕ
heading =
    codes "| Directory | GetS of r | GetM of r | PutS of r | PutM of r | Data home |\n"
    ++ codes "|---|---|---|---|---|---|\n"

-- what the table says of an entry, whatever its block is
abbrev pub row_at : Bool → Holders → DirEvent → DirRow
row_at exclusive holders event = cell exclusive holders.state holders.owner holders.sharers event

-- the cells of an entry
abbrev pub cells_of : Bool → Holders → List DirEvent → List ℕ
cells_of exclusive holders these =
    flat_map (λ event. codes " " ++ text_of_row (row_at exclusive holders event) ++ codes " |") these

-- the line of an entry, with what is said of the setting
abbrev pub line_of : Bool → List ℕ → Holders → List ℕ
line_of exclusive setting holders =
    codes "| " ++ (text_of_entry holders.state holders.owner holders.sharers ++ (setting ++ codes " |"))
    ++ cells_of exclusive holders all_events ++ codes "\n"

-- entries of each kind
abbrev pub shared_entry : DirState → ℕ → Holders
shared_entry state sharers = record { state = state; owner = None; sharers = sharers }

abbrev pub owned_entry : CoreId → Holders
owned_entry owner = record { state = dir_states.M; owner = Some owner; sharers = 0 }

-- the one whose row the setting changes
abbrev pub idle : Holders
idle = shared_entry dir_states.I 0

abbrev pub idle_lines : Bool → List ℕ
idle_lines true = line_of false (codes " (exclusive off)") idle ++ line_of true (codes " (exclusive on)") idle
idle_lines false = line_of false (codes "") idle

-- and the others
abbrev pub samples : List Holders
samples =
    shared_entry dir_states.S (only x.0) ∷ shared_entry dir_states.S (with (only x.0) r.0)
    ∷ shared_entry dir_states.S (only r.0)
    ∷ owned_entry o ∷ owned_entry r
    ∷ shared_entry dir_states.S_D (with (only o.0) x.0) ∷ shared_entry dir_states.S_D (with (only o.0) r.0)
    ∷ shared_entry dir_states.S_D (only r.0)
    ∷ shared_entry dir_states.S_D 0 ∷ []

abbrev pub lines_of : Bool → List Holders → List ℕ
lines_of exclusive these = flat_map (line_of exclusive (codes "")) these

-- the whole table
abbrev pub table_of : Bool → List ℕ
table_of exclusive = heading ++ idle_lines exclusive ++ lines_of exclusive samples
