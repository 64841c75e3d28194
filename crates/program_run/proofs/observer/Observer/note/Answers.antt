use Rattle.std.proofs.Common.{refl}
use Rattle.program_run.proofs.Seen.{noted_seen}
use Rattle.program_run.proofs.observer.Observer.note.Goals as goal

pub returns : goal.returns
returns c = λ config history seen.
    noted_seen config history c.args.event c.args.self.now _ refl c.note.ensures.lines c.note.ensures.recalls
    c.note.ensures.nothing seen
