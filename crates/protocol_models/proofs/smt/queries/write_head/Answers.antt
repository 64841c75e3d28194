use Rattle.protocol_models.proofs.smt.queries.write_head.Goals as goal

pub returns : goal.returns
returns g c = rw c.word_of-word.ensures at c.write.ensures.writes
