use Rattle.program_run.proofs.observer.Observer.deliver.Goals as goal

pub returns : goal.returns
returns c = λ config history seen. c.take_away.ensures config _ (c.count.ensures config history seen)
