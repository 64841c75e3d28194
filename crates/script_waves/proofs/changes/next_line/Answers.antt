use Rattle.script_waves.proofs.ChangesLemmas.{first_left}
use Rattle.script_waves.proofs.changes.next_line.Goals as goal

pub returns-clause-first : goal.returns-clause-first
returns-clause-first c = (first_left c.args.lines.now c.next.new.self c.next.result c.next.ensures.steps).0

pub returns-clause-rest : goal.returns-clause-rest
returns-clause-rest c = (first_left c.args.lines.now c.next.new.self c.next.result c.next.ensures.steps).1
