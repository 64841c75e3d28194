use Rattle.std.proofs.KnownBytes.{Appends-trans}
use Rattle.script_json.proofs.writer.write_made.Goals as goal

pub returns-in-Ok-clause-written : goal.returns-in-Ok-clause-written
returns-in-Ok-clause-written g c = Appends-trans _ _ _ _ _ c.in_ok-write_item.ensures.written c.in-Ok.ensures.ok
