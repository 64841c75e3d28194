use Rattle.std.proofs.Common.{map}
use Rattle.changed_tables.specs.CacheText.{IsChange, IsOfSome}
use Rattle.changed_tables.specs.Layout.{cell_at}
use Rattle.changed_tables.proofs.Cells.{all_more, some_mapped}
use Rattle.changed_tables.proofs.cache_reader.changes_of.Goals as goal

pub loop-cell-preserved : goal.loop-cell-preserved
loop-cell-preserved c =
    all_more (IsOfSome c.args.exclusive (map cell_at c.args.cells.now)) c.loop-cell.changes.items c.add.new.all.items
    c.in_ok-found.found c.in_ok-add.ensures c.loop-cell.invariant
    (some_mapped (IsChange c.args.exclusive) cell_at c.args.cells.now c.loop-cell.cell-index _ c.in_ok-found.found
    c.loop-cell-test.true c.in_ok-found.ensures)
