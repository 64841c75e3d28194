use Rattle.std.proofs.Common.{◌-◌, ◌≤◌}
use Rattle.program_sweep.specs.Sweep.{PrintsRows}
use Rattle.program_sweep.proofs.sweep.run_sweep.Given as goal

-- the rows before the first that is left are printed
abbrev pub invariant-loop-first : goal.invariant-loop-first
invariant-loop-first g l = record {
  within : l.first ≤ l.sweep.rows;
  printed : PrintsRows l.input l.sweep l.program l.form 0 l.first (g.W.Write.contents l.fn.out)
      (g.W.Write.contents l.out);
}

abbrev pub decreases-loop-first : goal.decreases-loop-first
decreases-loop-first g l = l.sweep.rows - l.first
