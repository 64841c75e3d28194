-- The table of a directory with some of its cells changed, and what a core sees of an entry.
use Rattle.std.specs.Prelude.{◌==◌, ◌&&◌, Bool, ℕ, List, [], ◌∷◌, if◌then◌else◌, Option, Some, None}
use Rattle.address_map.specs.CoreSet.{has, without}
use Rattle.address_map.specs.declared.address.CoreId.{CoreId}
use Rattle.directory_table.specs.declared.state.DirState.{DirState}
use Rattle.directory_table.specs.declared.state.DirState.TheVariants as dir_states
use Rattle.directory_table.specs.declared.row.DirEvent.{DirEvent}
use Rattle.directory_table.specs.declared.row.DirEvent.TheVariants as dir_events
use Rattle.directory_table.specs.declared.row.DirRow.{DirRow}
use Rattle.protocol_tables.specs.DirectoryRows.{meaning_of, rule_of}
use Rattle.protocol_tables.specs.declared.directory_rows.DirCase.{DirCase}
use Rattle.protocol_tables.specs.declared.directory_rows.DirCase.TheVariants as cases
use Rattle.protocol_tables.specs.declared.directory_rows.DirRule.{DirRule}
use Rattle.protocol_tables.specs.declared.directory_rows.Entry.{Entry}
use Rattle.protocol_tables.specs.declared.directory_rows.Entry.TheVariants as entries
use Rattle.protocol_tables.specs.declared.directory_rows.Sharing.{Sharing}
use Rattle.protocol_tables.specs.declared.directory_rows.Sharing.TheVariants as sharing
use Rattle.changed_tables.specs.Numbers.{dir_case_number, entry_number}
use Rattle.changed_tables.specs.declared.tables.DirectoryChange.{DirectoryChange}

-- ---- cells

-- the change is of this cell
abbrev pub is_at : DirectoryChange → Entry → DirCase → Bool
is_at change entry case =
    (entry_number change.entry == entry_number entry) && (dir_case_number change.case == dir_case_number case)

-- a cell's rule: that of the first change of it, and ours where there is none
abbrev pub rule_in : Bool → List DirectoryChange → Entry → DirCase → DirRule
rule_in exclusive [] entry case = rule_of exclusive entry case
rule_in exclusive (change ∷ more) entry case =
    if is_at change entry case then change.rule else rule_in exclusive more entry case

-- ---- what is seen of an entry

-- who shares the line, as this core sees it
abbrev pub sharing_of : ℕ → ℕ → Sharing
sharing_of sharers asker =
    if has sharers asker then (if without sharers asker == 0 then sharing.Asker else sharing.Both)
    else if sharers == 0 then sharing.Nobody else sharing.Others

-- the same as a core sees it that neither shares nor owns the line
abbrev pub sharing_of_others : ℕ → Sharing
sharing_of_others sharers = if sharers == 0 then sharing.Nobody else sharing.Others

-- In S a line has sharers, in M it has an owner, and elsewhere none.
abbrev pub shared_entry : Sharing → Option Entry
shared_entry sharing.Nobody = None
shared_entry seen = Some (entries.S seen)

abbrev pub owned_entry : CoreId → CoreId → Entry
owned_entry owner asker = if owner.0 == asker.0 then entries.MOfAsker else entries.MOfAnother

-- what this core sees of an entry, if the table has such an entry
abbrev pub entry_seen : DirState → Option CoreId → ℕ → CoreId → Option Entry
entry_seen dir_states.I None sharers asker = Some entries.I
entry_seen dir_states.S None sharers asker = shared_entry (sharing_of sharers asker.0)
entry_seen dir_states.M (Some owner) sharers asker = Some (owned_entry owner asker)
entry_seen dir_states.S_D None sharers asker = Some (entries.S_D (sharing_of sharers asker.0))
entry_seen _ _ _ _ = None

-- the same for a core that neither shares nor owns the line
abbrev pub entry_unasked : DirState → Option CoreId → ℕ → Option Entry
entry_unasked dir_states.I None sharers = Some entries.I
entry_unasked dir_states.S None sharers = shared_entry (sharing_of_others sharers)
entry_unasked dir_states.M (Some owner) sharers = Some entries.MOfAnother
entry_unasked dir_states.S_D None sharers = Some (entries.S_D (sharing_of_others sharers))
entry_unasked _ _ _ = None

-- ---- rows

-- what the rule of a cell does at an entry that looks so
abbrev pub does_at : Bool → List DirectoryChange → DirCase → Option CoreId → ℕ → CoreId → Option Entry → Option DirRow
does_at exclusive changes case owner sharers asker None = None
does_at exclusive changes case owner sharers asker (Some entry) =
    Some (meaning_of (rule_in exclusive changes entry case) owner sharers asker)

-- no core's name: no rule at data that come home names a requester
abbrev pub no_asker : CoreId
no_asker = record { 0 = 0 }

-- what a directory does at an entry and an event, if the table has such an entry
abbrev pub row_at : Bool → List DirectoryChange → DirState → Option CoreId → ℕ → DirEvent → Option DirRow
row_at exclusive changes state owner sharers (dir_events.GetS asker) =
    does_at exclusive changes cases.GetS owner sharers asker (entry_seen state owner sharers asker)
row_at exclusive changes state owner sharers (dir_events.GetM asker) =
    does_at exclusive changes cases.GetM owner sharers asker (entry_seen state owner sharers asker)
row_at exclusive changes state owner sharers (dir_events.PutS asker) =
    does_at exclusive changes cases.PutS owner sharers asker (entry_seen state owner sharers asker)
row_at exclusive changes state owner sharers (dir_events.PutM asker) =
    does_at exclusive changes cases.PutM owner sharers asker (entry_seen state owner sharers asker)
row_at exclusive changes state owner sharers dir_events.DataHome =
    does_at exclusive changes cases.DataHome owner sharers no_asker (entry_unasked state owner sharers)
