use Rattle.protocol_tables.proofs.directory_json.write_directory_cells.Goals as goal

pub returns : goal.returns
returns g c = rw c.entries.ensures at c.write_entries.ensures
