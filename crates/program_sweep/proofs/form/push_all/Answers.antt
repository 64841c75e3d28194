use Rattle.program_sweep.proofs.form.push_all.Goals as goal

pub returns : goal.returns
returns c = rw c.cells.ensures at c.push_cells.ensures
