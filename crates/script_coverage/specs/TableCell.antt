-- The names of a cell.
use Rattle.std.specs.Prelude.{ℕ, List, [], ◌∷◌, codes}
use Rattle.cache_table.specs.Name.{name_of as name_of_copy}
use Rattle.directory_table.specs.Name.{name_of as name_of_entry}
use Rattle.script_coverage.specs.declared.table_cell.Outcome.{Outcome}
use Rattle.script_coverage.specs.declared.table_cell.Outcome.TheVariants as outcomes
use Rattle.script_coverage.specs.declared.table_cell.TableEvent.{TableEvent}
use Rattle.script_coverage.specs.declared.table_cell.TableEvent.TheVariants as events
use Rattle.script_coverage.specs.declared.table_cell.TableState.{TableState}
use Rattle.script_coverage.specs.declared.table_cell.TableState.TheVariants as states

-- the table that has the state
abbrev pub table_of : TableState → List ℕ
table_of (states.Cache state) = codes "cache"
table_of (states.Directory state) = codes "directory"

-- the names of the tables, each one word
abbrev pub name_of_state : TableState → List ℕ
name_of_state (states.Cache state) = name_of_copy state
name_of_state (states.Directory state) = name_of_entry state

abbrev pub name_of_event : TableEvent → List ℕ
name_of_event events.Load = codes "load"
name_of_event events.Write = codes "write"
name_of_event events.Eviction = codes "eviction"
name_of_event events.FwdGetS = codes "Fwd-GetS"
name_of_event events.FwdGetM = codes "Fwd-GetM"
name_of_event events.Inv = codes "Inv"
name_of_event events.PutAck = codes "Put-Ack"
name_of_event events.Data = codes "Data"
name_of_event events.InvAck = codes "Inv-Ack"
name_of_event events.DataE = codes "Data-E"
name_of_event events.GetS = codes "GetS"
name_of_event events.GetM = codes "GetM"
name_of_event events.PutS = codes "PutS"
name_of_event events.PutM = codes "PutM"
name_of_event events.DataHome = codes "Data-home"

abbrev pub name_of_outcome : Outcome → List ℕ
name_of_outcome (outcomes.To state) = name_of_state state
name_of_outcome outcomes.Blocked = codes "blocked"
name_of_outcome outcomes.Joins = codes "joins"
name_of_outcome outcomes.Stalls = codes "stalls"
name_of_outcome outcomes.Busy = codes "busy"
name_of_outcome outcomes.NotHeld = codes "not-held"
