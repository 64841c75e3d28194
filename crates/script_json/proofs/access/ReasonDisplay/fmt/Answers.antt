use Rattle.script_json.proofs.access.ReasonDisplay.fmt.Goals as goal

pub returns-clause-writes : goal.returns-clause-writes
returns-clause-writes g c = λ plain fine. c.write.ensures.writes plain fine
