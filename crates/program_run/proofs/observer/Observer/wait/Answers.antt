use Rattle.program_run.proofs.observer.Observer.wait.Goals as goal

pub returns-then-is_first : goal.returns-then-is_first
returns-then-is_first c = λ config history seen. rw c.if-is_first.true (c.miss.ensures config history seen)

pub returns-else-is_first : goal.returns-else-is_first
returns-else-is_first c = λ config history seen.
    rw c.if-is_first.false (rw c.line.ensures at (c.count.ensures config history seen))
