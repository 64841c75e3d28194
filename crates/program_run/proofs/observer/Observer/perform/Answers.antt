use Rattle.program_run.proofs.observer.Observer.perform.Goals as goal

pub returns : goal.returns
returns c = λ config history seen.
    c.write.ensures config _ (rw c.line.ensures at (c.note.ensures config _ (c.wait.ensures config history seen)))
