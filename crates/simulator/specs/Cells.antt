-- The cell of the tables that a command would meet.
use Rattle.std.specs.Prelude.{◌≡◌, ◌%◌, List, Option, None, Some, option_and_then}
use Rattle.address_map.specs.Place.{line_of as line_of_word}
use Rattle.address_map.specs.declared.address.CoreId.{CoreId}
use Rattle.address_map.specs.declared.address.LineAddr.{LineAddr}
use Rattle.address_map.specs.declared.config.Config.{Config}
use Rattle.address_map.specs.declared.request.Request.{Request}
use Rattle.cache_table.specs.declared.state.CopyState.{CopyState}
use Rattle.cache_table.specs.declared.state.CopyState.TheVariants as copy_states
use Rattle.litmus_script.specs.Machine.{HasAt}
use Rattle.litmus_text.specs.Command.{HasCore}
use Rattle.litmus_text.specs.declared.command.Command.{Command}
use Rattle.litmus_text.specs.declared.command.Command.TheVariants as commands
use Rattle.script_coverage.specs.Cell.{cell_at, outcome_of_decision, outcome_of_plan}
use Rattle.script_coverage.specs.declared.table_cell.Cell.{Cell}
use Rattle.script_coverage.specs.declared.table_cell.Outcome.{Outcome}
use Rattle.script_coverage.specs.declared.table_cell.Outcome.TheVariants as outcomes
use Rattle.script_coverage.specs.declared.table_cell.TableEvent.TheVariants as table_events
use Rattle.script_coverage.specs.declared.table_cell.TableState.TheVariants as table_states
use Rattle.script_explained.specs.Delivery.{case_at}
use Rattle.script_explained.specs.Issue.{issue_at}
use Rattle.script_explained.specs.Look.{copy_at}
use Rattle.slice_core_spec.specs.Calls.{PartsView}
use Rattle.slice_core_spec.specs.Plan.{planned_at}
use Rattle.slice_core_spec.specs.View.{View}
use Rattle.slice_queues.specs.Pick.{line_of}
use Rattle.slice_queues.specs.declared.channel.Pick.{Pick}

-- of an access, as it is decided
abbrev pub cell_of_issue : View → CoreId → Request → Option Cell
cell_of_issue v core request =
    cell_at (issue_at 0 v core request).case (outcome_of_decision (issue_at 0 v core request).decision)

-- what becomes of a copy in this state that is evicted, where the write-back buffer has room for it
abbrev pub outcome_with_room : CopyState → Outcome
outcome_with_room copy_states.I = outcomes.NotHeld
outcome_with_room copy_states.S = outcomes.To (table_states.Cache copy_states.SI_A)
outcome_with_room copy_states.M = outcomes.To (table_states.Cache copy_states.MI_A)
outcome_with_room copy_states.E = outcomes.To (table_states.Cache copy_states.MI_A)
outcome_with_room state = outcomes.Busy

-- of an eviction there
abbrev pub cell_of_eviction : View → CoreId → LineAddr → Cell
cell_of_eviction v core line = record {
  state = table_states.Cache (copy_at v line core);
  event = table_events.Eviction;
  outcome = outcome_with_room (copy_at v line core);
}

-- of a delivery, where a message waits
abbrev pub cell_of_delivery : View → Pick → Option Cell
cell_of_delivery v pick =
    option_and_then (λ case. cell_at case (outcome_of_plan (planned_at v pick))) (case_at 0 v pick)

-- the machine has the core that asks
abbrev pub HasItsCore : Config → Command → Type 0
HasItsCore config (commands.Issue core request) = HasCore config core
HasItsCore config command = Unit {0}

-- a command meets this cell in its slice, or none
abbrev pub MeetsCell : Config → List PartsView → Command → Option Cell → Type 0
MeetsCell config slices (commands.Issue core request) cell =
    HasAt slices ((line_of_word request.word).0 % config.slices) (λ state. cell ≡ cell_of_issue state.view core request)
MeetsCell config slices (commands.Evict core line) cell =
    HasAt slices (line.0 % config.slices) (λ state. cell ≡ Some (cell_of_eviction state.view core line))
MeetsCell config slices (commands.Deliver pick) cell =
    HasAt slices ((line_of pick).0 % config.slices) (λ state. cell ≡ cell_of_delivery state.view pick)
MeetsCell config slices command cell = cell ≡ None
