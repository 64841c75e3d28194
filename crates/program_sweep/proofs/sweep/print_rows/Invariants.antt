use Rattle.program_sweep.specs.Sweep.{PrintsRows}
use Rattle.program_sweep.proofs.sweep.print_rows.Given as goal

-- those so far are printed
abbrev pub invariant-loop-place : goal.invariant-loop-place
invariant-loop-place g l =
    PrintsRows l.fn.input l.fn.sweep l.fn.program l.fn.form l.fn.first l.place (g.W.Write.contents l.fn.out)
    (g.W.Write.contents l.out)
