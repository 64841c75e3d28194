use Rattle.std.proofs.Common.{◌≡◌, false, refl, true}
use Rattle.program_run.proofs.Seen.{miss_seen, no_miss_seen}
use Rattle.program_run.proofs.observer.Observer.miss.Goals as goal

pub returns-in-Some : goal.returns-in-Some
returns-in-Some c = λ config history seen.
    miss_seen config history c.args.core c.args.word c.in-Some.cause c.args.self.now _
    (c.in-Some.ensures.place.0 refl) (c.in-Some.ensures.cause history.happened seen.recalls) seen
    (rw c.line.ensures at (c.count.ensures config history seen))

pub returns-in-None : goal.returns-in-None
returns-in-None c = λ config history seen.
    no_miss_seen config history c.args.core c.args.word c.args.self.now
    (λ place. let some : false ≡ true = c.in-None.ensures.place.1 place in cc) seen
