use Rattle.protocol_models.proofs.smt.directory.write_directory_queries.Goals as goal

pub returns : goal.returns
returns g c = rw c.entries.ensures at c.write_lines.ensures
