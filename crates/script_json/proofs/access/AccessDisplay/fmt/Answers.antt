use Rattle.script_json.proofs.access.AccessDisplay.fmt.Goals as goal

pub returns-in-Done-clause-writes : goal.returns-in-Done-clause-writes
returns-in-Done-clause-writes g c = λ plain fine. rw c.in-Done.is (c.write.ensures.writes plain fine)
