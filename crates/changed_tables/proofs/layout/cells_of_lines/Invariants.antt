use Rattle.std.proofs.Common.{◌≡◌, ◌+◌, ◌++◌, [], drop, map}
use Rattle.changed_tables.specs.Layout.{cell_at, cells_of_lines, words_at}
use Rattle.changed_tables.proofs.layout.cells_of_lines.Given as goal

-- with the cells of the lines from here on they are all
abbrev pub invariant-loop-i : goal.invariant-loop-i
invariant-loop-i l =
    map cell_at l.found.items
    ++ cells_of_lines l.table (l.i + 1) (words_at l.titles.items) (words_at (drop l.i l.lines))
    ≡ cells_of_lines l.table 1 [] (words_at l.lines)
