use Rattle.program_sweep.proofs.sweep.run_row.Goals as goal

pub returns-in-Some : goal.returns-in-Some
returns-in-Some c = record {
  sums = c.in-Some.sums;
  counted = rw c.in-Some.is at c.in_ok-sums.ensures;
  is = c.row_of.ensures;
}
