use Rattle.std.proofs.lemmas.List.Elements.{All-more}
use Rattle.changed_tables.specs.DirectoryText.{IsRead}
use Rattle.changed_tables.specs.Layout.{cell_at}
use Rattle.changed_tables.proofs.Cells.{all_taken}
use Rattle.changed_tables.proofs.directory_reader.check_cells.Goals as goal

pub loop-cell-preserved : goal.loop-cell-preserved
loop-cell-preserved c =
    All-more (λ cell. IsRead c.args.exclusive c.args.changes.now (cell_at cell)) c.args.cells.now c.loop-cell.cell-index _
    c.loop-cell-test.true c.loop-cell.invariant c.in_ok-check_cell.ensures

pub returns : goal.returns
returns c =
    all_taken (λ cell. IsRead c.args.exclusive c.args.changes.now (cell_at cell)) c.args.cells.now c.loop-cell.cell-index
    c.loop-cell-test.false c.loop-cell.invariant
