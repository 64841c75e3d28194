-- How often the cells were met: a count for each of them, in their order, or none where it isn't listed.
use Rattle.std.specs.Prelude.{◌≡◌, ℕ, ◌+◌, ◌≤◌, ◌^◌, Bool, true, not, List, [], ◌∷◌, ◌++◌, drop, take, Option, Some, None}
use Rattle.std.specs.Prelude.{if◌then◌else◌, slice_index_or, slice_set, unwrap_or}
use Rattle.cache_table.specs.declared.state.CopyState.TheVariants as copy_states
use Rattle.directory_table.specs.declared.state.DirState.TheVariants as dir_states
use Rattle.script_coverage.specs.declared.table_cell.Cell.{Cell}
use Rattle.script_coverage.specs.declared.table_cell.Outcome.{Outcome}
use Rattle.script_coverage.specs.declared.table_cell.Outcome.TheVariants as outcomes
use Rattle.script_coverage.specs.declared.table_cell.TableEvent.{TableEvent}
use Rattle.script_coverage.specs.declared.table_cell.TableEvent.TheVariants as events
use Rattle.script_coverage.specs.declared.table_cell.TableState.{TableState}
use Rattle.script_coverage.specs.declared.table_cell.TableState.TheVariants as states

-- ---- the cells of a setting

-- With the exclusive state alone there are E and Data-E, and a reader may become the owner, to which requests are
-- forwarded; a line that no core has is given to a reader as the only copy then, and else to share.
abbrev pub is_met_at : Bool → TableState → TableEvent → Outcome → Bool
is_met_at exclusive (states.Cache copy_states.E) event outcome = exclusive
is_met_at exclusive state events.DataE outcome = exclusive
is_met_at exclusive (states.Cache copy_states.IS_D) events.FwdGetS outcome = exclusive
is_met_at exclusive (states.Cache copy_states.IS_D) events.FwdGetM outcome = exclusive
is_met_at exclusive (states.Directory dir_states.I) events.GetS (outcomes.To (states.Directory dir_states.M)) = exclusive
is_met_at exclusive (states.Directory dir_states.I) events.GetS outcome = not exclusive
is_met_at exclusive state event outcome = true

abbrev pub is_met : Bool → Cell → Bool
is_met exclusive cell = is_met_at exclusive cell.state cell.event cell.outcome

-- what is listed of a cell before the first step: those of a setting, or none
abbrev pub listed : Option Bool → Cell → Option ℕ
listed None cell = None
listed (Some exclusive) cell = if is_met exclusive cell then Some 0 else None

-- ---- counts

-- how often the cell with this number was met
abbrev pub had : List (Option ℕ) → ℕ → ℕ
had counts cell = unwrap_or (slice_index_or counts cell None) 0

-- .. `times` times more
abbrev pub counted : List (Option ℕ) → ℕ → ℕ → List (Option ℕ)
counted counts cell times = slice_set counts cell (Some (had counts cell + times))

-- each of these cells was met once more
abbrev pub counted_all : List (Option ℕ) → List ℕ → List (Option ℕ)
counted_all counts [] = counts
counted_all counts (cell ∷ cells) = counted_all (counted counts cell 1) cells

-- ---- sums

-- the sum of two counts of a cell, which is listed where one of them is
abbrev pub sum_of : Option ℕ → Option ℕ → Option ℕ
sum_of None more = more
sum_of (Some count) more = Some (count + unwrap_or more 0)

-- .. of each cell
abbrev pub sums : List (Option ℕ) → List (Option ℕ) → List (Option ℕ)
sums [] more = []
sums (count ∷ counts) [] = count ∷ counts
sums (count ∷ counts) (other ∷ more) = sum_of count other ∷ sums counts more

-- The sum of this cell would be too much: those of the cells before it have replaced their counts.
pub record IsTooOften (old more new : List (Option ℕ)) : Type 0 where
  pub cell : ℕ
  pub over : 2 ^ 64 ≤ had old cell + had more cell
  pub before : new ≡ take cell (sums old more) ++ drop cell old
