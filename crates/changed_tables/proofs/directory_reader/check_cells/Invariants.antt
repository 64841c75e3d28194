use Rattle.std.proofs.Common.{take}
use Rattle.std.specs.List.{All}
use Rattle.changed_tables.specs.DirectoryText.{IsRead}
use Rattle.changed_tables.specs.Layout.{cell_at}
use Rattle.changed_tables.proofs.directory_reader.check_cells.Given as goal

-- each cell so far is read
abbrev pub invariant-loop-cell : goal.invariant-loop-cell
invariant-loop-cell l = All (λ cell. IsRead l.exclusive l.changes (cell_at cell)) (take l.cell-index l.cells)
