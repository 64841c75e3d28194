use Rattle.std.proofs.Common.{length, map, ◌<◌}
use Rattle.std.proofs.lemmas.List.{length-map}
use Rattle.changed_tables.specs.Layout.{cell_at, cell_of, words_at}
use Rattle.changed_tables.proofs.Steps.{next_place}
use Rattle.changed_tables.proofs.layout.add_cells_along.Goals as goal

pub loop-place-preserved : goal.loop-place-preserved
loop-place-preserved c =
    let below : c.loop-place.place < length (words_at c.args.words.now) = rw length-map c.loop-place-test.true in
    next_place (cell_of c.args.line (words_at c.args.titles.now) (words_at c.args.words.now))
    (map cell_at c.loop-place.found.items) (map cell_at c.add_cell.new.found.items) _ c.loop-place.place _ below
    c.loop-place.invariant c.in_ok-add_cell.ensures
