-- The columns of rows, each by its name: the settings, the seed, and the sums of the run.
use Rattle.std.specs.Prelude.{ℕ, Bool, true, false, List, [], ◌∷◌, ◌++◌, codes, map, Option, Some, None}
use Rattle.program_run.specs.Column.{count_in, key_of, line_columns, parallel_columns}
use Rattle.program_run.specs.Run.{is_measured}
use Rattle.program_run.specs.declared.column.Column.TheVariants as columns
use Rattle.program_text.specs.Judged.{is_limited}
use Rattle.program_sweep.specs.declared.cell.Cell.{Cell}
use Rattle.program_sweep.specs.declared.cell.Cell.TheVariants as cells
use Rattle.program_sweep.specs.declared.row.Row.{Row}
use Rattle.program_sweep.specs.declared.cell.Value.{Value}
use Rattle.program_sweep.specs.declared.cell.Value.TheVariants as values

-- in their order: the counts of all lines come as in a report
abbrev pub all_cells : List Cell
all_cells =
    (cells.Cores ∷ cells.Slices ∷ cells.Lines ∷ cells.Sets ∷ cells.Ways ∷ cells.Mshrs ∷ cells.Targets ∷ cells.Writebacks
    ∷ cells.Policy ∷ cells.MissFile ∷ cells.Exclusive ∷ cells.Outstanding ∷ cells.Pace
    ∷ cells.Seed ∷ [])
    ++ map cells.Count line_columns ++ map cells.Further parallel_columns
    ++ cells.Moves ∷ cells.Count columns.Delivered ∷ cells.RegistersMost ∷ cells.RegistersSum ∷ cells.TargetsMost ∷ cells.TargetsSum ∷ []

abbrev pub name_of : Cell → List ℕ
name_of cells.Cores = codes "cores"
name_of cells.Slices = codes "slices"
name_of cells.Lines = codes "lines"
name_of cells.Sets = codes "sets"
name_of cells.Ways = codes "ways"
name_of cells.Mshrs = codes "mshrs"
name_of cells.Targets = codes "targets"
name_of cells.Writebacks = codes "writebacks"
name_of cells.Policy = codes "policy"
name_of cells.MissFile = codes "miss_file"
name_of cells.Exclusive = codes "exclusive"
name_of cells.Outstanding = codes "outstanding"
name_of cells.Pace = codes "pace"
name_of cells.Seed = codes "seed"
name_of (cells.Count column) = key_of column
name_of (cells.Further column) = key_of column
name_of cells.Moves = codes "moves"
name_of cells.RegistersMost = codes "registers_most"
name_of cells.RegistersSum = codes "registers_sum"
name_of cells.TargetsMost = codes "targets_most"
name_of cells.TargetsSum = codes "targets_sum"

-- a number, if there is one
abbrev pub if_given : Option ℕ → Value
if_given None = values.Nothing
if_given (Some number) = values.Number number

-- .. which is counted, or not
abbrev pub number_if : Bool → ℕ → Value
number_if false number = values.Nothing
number_if true number = values.Number number

-- only if it is given how many accesses of a core may be under way
abbrev pub if_limited : Row → ℕ → Value
if_limited row number = number_if (is_limited row.limits.outstanding) number

-- only if something bounds the run
abbrev pub if_bound : Row → ℕ → Value
if_bound row number = number_if (is_measured row.limits) number

-- what a row has there
abbrev pub value_in : Cell → Row → Value
value_in cells.Cores row = values.Number row.cores
value_in cells.Slices row = values.Number row.slices
value_in cells.Lines row = values.Number row.lines
value_in cells.Sets row = values.Number row.sets
value_in cells.Ways row = values.Number row.ways
value_in cells.Mshrs row = values.Number row.mshrs
value_in cells.Targets row = values.Number row.targets
value_in cells.Writebacks row = values.Number row.writebacks
value_in cells.Policy row = values.Policy row.policy
value_in cells.MissFile row = values.Misses row.misses
value_in cells.Exclusive row = values.Switch row.exclusive
value_in cells.Outstanding row = if_given row.limits.outstanding
value_in cells.Pace row = if_given row.limits.pace
value_in cells.Seed row = values.Number row.seed
value_in (cells.Count column) row = values.Number (count_in column row.sums.counts)
value_in (cells.Further column) row = if_limited row (count_in column row.sums.counts)
value_in cells.Moves row = if_bound row row.sums.usage.moves
value_in cells.RegistersMost row = if_limited row row.sums.usage.most_registers
value_in cells.RegistersSum row = if_limited row row.sums.usage.sum_registers
value_in cells.TargetsMost row = if_limited row row.sums.usage.most_targets
value_in cells.TargetsSum row = if_limited row row.sums.usage.sum_targets
