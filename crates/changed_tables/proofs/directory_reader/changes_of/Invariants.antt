use Rattle.std.proofs.Common.{map}
use Rattle.std.specs.List.{All}
use Rattle.changed_tables.specs.DirectoryText.{IsOfSome}
use Rattle.changed_tables.specs.Layout.{cell_at}
use Rattle.changed_tables.proofs.directory_reader.changes_of.Given as goal

-- each change so far is of a cell
abbrev pub invariant-loop-cell : goal.invariant-loop-cell
invariant-loop-cell l = All (IsOfSome l.exclusive (map cell_at l.cells)) l.changes.items
