use Rattle.script_explained.proofs.unrest.UnrestDisplay.fmt.Goals as goal

pub returns-in-Reply-clause-writes : goal.returns-in-Reply-clause-writes
returns-in-Reply-clause-writes g c = λ plain fine. rw c.in-Reply.is (c.write-in-Reply.ensures.writes plain fine)
