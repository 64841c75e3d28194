use Rattle.litmus_rounds.proofs.RoundLemmas.{all_ended}
use Rattle.litmus_rounds.proofs.batch.add_stretch.Goals as goal

pub returns-in_ok-append-in-Ok : goal.returns-in_ok-append-in-Ok
returns-in_ok-append-in-Ok c = λ test bound seed most count are is.
    rw c.behind.ensures
    (all_ended test bound seed most c.args.done c.args.outcomes.now c.in-Ok.stretch.outcomes c.append.new.self count
    c.in-Ok.stretch.ended are (rw c.in-Ok.is at is) c.in_ok-append-in-Ok.ensures.behind)
