use Rattle.script_json.proofs.writer.ValueWriterStepWriter.write_next.Goals as goal

pub returns-clause-written : goal.returns-clause-written
returns-clause-written g c = rw (c.as_bytes.ensures.value, c.in_ok-told.ensures) at c.write_made.ensures.written
