use Rattle.text_verdicts.proofs.wrong_entry.CauseMembersDisplay.fmt.Goals as goal

pub returns-in-Value-clause-writes : goal.returns-in-Value-clause-writes
returns-in-Value-clause-writes g c = λ plain fine. rw c.in-Value.is (c.write.ensures.writes plain fine)
