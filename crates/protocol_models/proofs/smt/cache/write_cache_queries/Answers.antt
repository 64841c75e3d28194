use Rattle.protocol_models.proofs.smt.cache.write_cache_queries.Goals as goal

pub returns : goal.returns
returns g c = rw c.states.ensures at c.write_states.ensures
