use Rattle.protocol_tables.proofs.cache_json.write_cache_cells.Goals as goal

pub returns : goal.returns
returns g c = rw c.states.ensures at c.write_states.ensures
