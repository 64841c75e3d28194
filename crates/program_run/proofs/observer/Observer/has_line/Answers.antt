use Rattle.program_run.proofs.Seen.{line_seen}
use Rattle.program_run.proofs.observer.Observer.has_line.Goals as goal

pub returns : goal.returns
returns c = λ config history seen.
    line_seen config history c.args.core c.args.line c.args.self.now c.holds.result c.holds.ensures.held
    c.holds.ensures.place seen
