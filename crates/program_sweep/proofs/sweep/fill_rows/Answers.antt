use Rattle.program_sweep.proofs.sweep.fill_rows.Goals as goal

pub returns-clause-each : goal.returns-clause-each
returns-clause-each g c = λ place d below.
    let made = (c.for_each_mut.ensures place d below).1 in
    rw made.left at made.call
