use Rattle.script_explained.proofs.style.StepwiseStyle.play.Goals as goal

pub returns-then-self-clause-played : goal.returns-then-self-clause-played
returns-then-self-clause-played g c = rw c.if-self.true c.play_echoed.ensures.played

pub returns-then-self-clause-fault : goal.returns-then-self-clause-fault
returns-then-self-clause-fault g c = rw c.if-self.true c.play_echoed.ensures.fault

pub returns-else-self-clause-played : goal.returns-else-self-clause-played
returns-else-self-clause-played g c = rw c.if-self.false c.play_steps.ensures.played

pub returns-else-self-clause-fault : goal.returns-else-self-clause-fault
returns-else-self-clause-fault g c = rw c.if-self.false c.play_steps.ensures.fault
