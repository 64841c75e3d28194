use Rattle.std.proofs.Common.{◌≡◌, ◌-◌, ◌++◌, length, map}
use Rattle.std.specs.List.{flat_map, range_with_len}
use Rattle.changed_tables.specs.Layout.{cell_at, cell_of, cells_along, words_at}
use Rattle.changed_tables.proofs.layout.add_cells_along.Given as goal

-- with the cells from here on they are all
abbrev pub invariant-loop-place : goal.invariant-loop-place
invariant-loop-place l =
    map cell_at l.found.items
    ++ flat_map (cell_of l.line (words_at l.titles) (words_at l.words))
    (range_with_len l.place (length (words_at l.words) - l.place))
    ≡ map cell_at l.fn.found.items ++ cells_along l.line (words_at l.titles) (words_at l.words)
