use Rattle.script_json.proofs.answer.ReplyDisplay.fmt.Goals as goal

pub returns-clause-writes : goal.returns-clause-writes
returns-clause-writes g c = λ plain fine. rw c.in-Some.is (c.write.ensures.writes plain fine)
