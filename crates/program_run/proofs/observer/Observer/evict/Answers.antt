use Rattle.program_run.proofs.observer.Observer.evict.Goals as goal

pub returns : goal.returns
returns c = λ config history seen. c.note.ensures config _ (c.count.ensures config history seen)
