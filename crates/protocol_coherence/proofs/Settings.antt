-- The exclusive state makes a difference to one row alone: a request to read a line that no core has.
use Rattle.std.proofs.Common.{ℕ, Bool, true, false, Option, Some}
use Rattle.address_map.specs.declared.address.CoreId.{CoreId}
use Rattle.directory_table.specs.Row.{cell}
use Rattle.directory_table.specs.declared.state.DirState.{DirState}
use Rattle.directory_table.specs.declared.state.DirState.TheVariants as dir_states
use Rattle.directory_table.specs.declared.row.DirEvent.{DirEvent}
use Rattle.directory_table.specs.declared.row.DirEvent.TheVariants as dir_events
use Rattle.directory_table.specs.declared.row.DirRow.{DirRow}

-- What holds of each row with the setting, and of that one without it, holds of each row at both settings. The lines
-- of GetS split the cases, and the last covers each that is left.
pub by_setting : (P : DirState → Option CoreId → DirEvent → DirRow → Type 0) (s : ℕ)
    → ((directory : DirState) (owner : Option CoreId) (event : DirEvent)
    → P directory owner event (cell true directory owner s event))
    → ((owner : Option CoreId) (core : CoreId) → P dir_states.I owner (dir_events.GetS core)
    (cell false dir_states.I owner s (dir_events.GetS core)))
    → (exclusive : Bool) (directory : DirState) (owner : Option CoreId) (event : DirEvent)
    → P directory owner event (cell exclusive directory owner s event)
by_setting P s on off true directory owner event = on directory owner event
by_setting P s on off false dir_states.I owner (dir_events.GetS core) = off owner core
by_setting P s on off false dir_states.M (Some owner) (dir_events.GetS core) =
    on dir_states.M (Some owner) (dir_events.GetS core)
by_setting P s on off false directory owner (dir_events.GetS core) = on directory owner (dir_events.GetS core)
by_setting P s on off false directory owner event = on directory owner event
