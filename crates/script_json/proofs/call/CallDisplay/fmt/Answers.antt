use Rattle.script_json.proofs.call.CallDisplay.fmt.Goals as goal

pub returns-in-Hand-clause-writes : goal.returns-in-Hand-clause-writes
returns-in-Hand-clause-writes g c = λ plain fine. rw c.in-Hand.is (c.write-in-Hand.ensures.writes plain fine)
