use Rattle.protocol_models.proofs.smt.cache.write_query.Goals as goal

pub returns-in-Go : goal.returns-in-Go
returns-in-Go g c =
    rw c.in-Go.is (rw (c.text_of_effect-does.ensures, c.sample_of.ensures) at c.write.ensures.writes)
