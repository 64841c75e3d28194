-- With no cell changed a directory's row is that of our table.
use Rattle.std.proofs.Common.{◌≡◌, ◌==◌, ℕ, Bool, true, false, [], Option, Some, None, IfSome, if◌then◌else◌, refl, sym}
use Rattle.address_map.specs.declared.address.CoreId.{CoreId}
use Rattle.directory_table.specs.Row.{cell}
use Rattle.directory_table.specs.declared.state.DirState.{DirState}
use Rattle.directory_table.specs.declared.state.DirState.TheVariants as dir_states
use Rattle.directory_table.specs.declared.row.DirEvent.{DirEvent}
use Rattle.directory_table.specs.declared.row.DirEvent.TheVariants as dir_events
use Rattle.protocol_tables.proofs.DirectoryEntries.{means}
use Rattle.protocol_tables.specs.DirectoryRows.{IsEntry, event_of}
use Rattle.protocol_tables.specs.declared.directory_rows.DirCase.{DirCase}
use Rattle.protocol_tables.specs.declared.directory_rows.DirCase.TheVariants as cases
use Rattle.protocol_tables.specs.declared.directory_rows.Entry.{Entry}
use Rattle.protocol_tables.specs.declared.directory_rows.Entry.TheVariants as entries
use Rattle.protocol_tables.specs.declared.directory_rows.Sharing.TheVariants as sharing
use Rattle.changed_tables.specs.Directory.{does_at, entry_seen, no_asker, row_at, shared_entry}
use Rattle.changed_tables.proofs.SeenEntries.{is_seen}

-- where a core asks, what it sees says the row
asked : (exclusive : Bool) (case : DirCase) (state : DirState) (owner : Option CoreId) (sharers : ℕ) (asker : CoreId)
    (seen : Option Entry) → IfSome seen (λ entry. IsEntry entry state owner sharers asker)
    → IfSome (does_at exclusive [] case owner sharers asker seen)
    (λ row. row ≡ cell exclusive state owner sharers (event_of case asker))
asked exclusive case state owner sharers asker None is = tt
asked exclusive case state owner sharers asker (Some entry) is =
    sym (means exclusive entry case state owner sharers asker is)

-- where a block comes home, whether anybody shares the line
home_in_s : (exclusive : Bool) (sharers : ℕ) (none : Bool) → (sharers == 0) ≡ none
    → IfSome (does_at exclusive [] cases.DataHome None sharers no_asker
    (shared_entry (if none then sharing.Nobody else sharing.Others)))
    (λ row. row ≡ cell exclusive dir_states.S None sharers dir_events.DataHome)
home_in_s exclusive sharers true is = tt
home_in_s true sharers false is = refl
home_in_s false sharers false is = refl

home_in_s_d : (exclusive : Bool) (sharers : ℕ) (none : Bool) → (sharers == 0) ≡ none
    → IfSome (does_at exclusive [] cases.DataHome None sharers no_asker
    (Some (entries.S_D (if none then sharing.Nobody else sharing.Others))))
    (λ row. row ≡ cell exclusive dir_states.S_D None sharers dir_events.DataHome)
home_in_s_d true sharers true is = rw is refl
home_in_s_d true sharers false is = rw is refl
home_in_s_d false sharers true is = rw is refl
home_in_s_d false sharers false is = rw is refl

home : (exclusive : Bool) (state : DirState) (owner : Option CoreId) (sharers : ℕ)
    → IfSome (row_at exclusive [] state owner sharers dir_events.DataHome)
    (λ row. row ≡ cell exclusive state owner sharers dir_events.DataHome)
home true dir_states.I None sharers = refl
home false dir_states.I None sharers = refl
home exclusive dir_states.I (Some owner) sharers = tt
home exclusive dir_states.S None sharers = home_in_s exclusive sharers (sharers == 0) refl
home exclusive dir_states.S (Some owner) sharers = tt
home exclusive dir_states.M None sharers = tt
home true dir_states.M (Some owner) sharers = refl
home false dir_states.M (Some owner) sharers = refl
home exclusive dir_states.S_D None sharers = home_in_s_d exclusive sharers (sharers == 0) refl
home exclusive dir_states.S_D (Some owner) sharers = tt

pub is_ours : (exclusive : Bool) (state : DirState) (owner : Option CoreId) (sharers : ℕ) (event : DirEvent)
    → IfSome (row_at exclusive [] state owner sharers event)
    (λ row. row ≡ cell exclusive state owner sharers event)
is_ours exclusive state owner sharers (dir_events.GetS asker) =
    asked exclusive cases.GetS state owner sharers asker (entry_seen state owner sharers asker)
    (is_seen state owner sharers asker)
is_ours exclusive state owner sharers (dir_events.GetM asker) =
    asked exclusive cases.GetM state owner sharers asker (entry_seen state owner sharers asker)
    (is_seen state owner sharers asker)
is_ours exclusive state owner sharers (dir_events.PutS asker) =
    asked exclusive cases.PutS state owner sharers asker (entry_seen state owner sharers asker)
    (is_seen state owner sharers asker)
is_ours exclusive state owner sharers (dir_events.PutM asker) =
    asked exclusive cases.PutM state owner sharers asker (entry_seen state owner sharers asker)
    (is_seen state owner sharers asker)
is_ours exclusive state owner sharers dir_events.DataHome = home exclusive state owner sharers
