-- The table of a private cache with some of its cells changed.
use Rattle.std.specs.Prelude.{◌==◌, ◌&&◌, Bool, List, [], ◌∷◌, if◌then◌else◌}
use Rattle.cache_table.specs.declared.state.CopyState.{CopyState}
use Rattle.cache_table.specs.declared.row.Row.{Row}
use Rattle.protocol_tables.specs.CacheRows.{rule_of}
use Rattle.protocol_tables.specs.declared.cache_rows.CacheCase.{CacheCase}
use Rattle.changed_tables.specs.Numbers.{case_number, state_number}
use Rattle.changed_tables.specs.declared.tables.CacheChange.{CacheChange}

-- the change is of this cell
abbrev pub is_at : CacheChange → CopyState → CacheCase → Bool
is_at change state case =
    (state_number change.state == state_number state) && (case_number change.case == case_number case)

-- a cell's row: that of the first change of it, and ours where there is none
abbrev pub row_in : List CacheChange → CopyState → CacheCase → Row
row_in [] state case = rule_of state case
row_in (change ∷ more) state case = if is_at change state case then change.row else row_in more state case
