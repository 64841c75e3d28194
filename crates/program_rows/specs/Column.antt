-- The counts of a column.
use Rattle.std.specs.Prelude.{ℕ, List, Option, Some, None, slice_get}
use Rattle.std.specs.List.{filter_map}
use Rattle.program_rows.specs.declared.rows.Row.{Row}

-- a field that is empty has no count
abbrev pub given : Option (Option ℕ) → Option ℕ
given None = None
given (Some count) = count

abbrev pub count_in : ℕ → Row → Option ℕ
count_in column row = given (slice_get row.counts.items column)

-- .. of those rows that have one
abbrev pub numbers_in : ℕ → List Row → List ℕ
numbers_in column rows = filter_map (count_in column) rows
