use Rattle.std.proofs.Common.{◌∙◌, refl}
use Rattle.program_sweep.specs.Form.{cell_of}
use Rattle.litmus_text.proofs.Pieces.{last_pieces, next_values}
use Rattle.program_sweep.proofs.form.push_cells.Goals as goal

pub loop-cell-preserved : goal.loop-cell-preserved
loop-cell-preserved c =
    next_values (cell_of c.args.layout c.args.row.now) c.args.cells.now c.loop-cell.cell-index _ _ _ _
    c.loop-cell-test.true refl c.in_ok-push_cell.ensures
    ∙ c.loop-cell.invariant

pub returns : goal.returns
returns c =
    last_pieces (cell_of c.args.layout c.args.row.now) c.args.cells.now c.loop-cell.cell-index _ c.loop-cell-test.false
    ∙ c.loop-cell.invariant
