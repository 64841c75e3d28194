use Rattle.std.proofs.Common.{◌≡◌, ◌++◌, drop}
use Rattle.program_sweep.specs.Form.{cells_of}
use Rattle.program_sweep.proofs.form.push_cells.Given as goal

-- what is written, and the cells that are left, are the whole
abbrev pub invariant-loop-cell : goal.invariant-loop-cell
invariant-loop-cell l =
    l.out.items ++ cells_of l.layout l.row (drop l.cell-index l.cells)
    ≡ l.fn.out.items ++ cells_of l.layout l.row l.cells
