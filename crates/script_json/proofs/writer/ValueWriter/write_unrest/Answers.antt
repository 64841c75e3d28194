use Rattle.script_json.proofs.writer.ValueWriter.write_unrest.Goals as goal

pub returns-clause-written : goal.returns-clause-written
returns-clause-written g c = rw (c.as_bytes.ensures.value, c.in_ok-told.ensures) at c.write_item.ensures.written
