use Rattle.program_run.proofs.observer.Observer.hit.Goals as goal

pub returns : goal.returns
returns c = λ config history seen.
    c.write.ensures config _ (rw c.line.ensures at (c.count.ensures config history seen))
