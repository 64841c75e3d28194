use Rattle.slice_json.proofs.access.write_target.Goals as goal

pub returns : goal.returns
returns g c = c.write.ensures.writes
