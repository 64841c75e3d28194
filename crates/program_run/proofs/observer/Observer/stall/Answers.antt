use Rattle.program_run.proofs.observer.Observer.stall.Goals as goal

pub returns : goal.returns
returns c = λ config history seen. rw c.line.ensures at (c.count.ensures config history seen)
