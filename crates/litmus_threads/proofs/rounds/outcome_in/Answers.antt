use Rattle.std.proofs.lemmas.Result.{IfOk-weaker}
use Rattle.litmus_threads.proofs.Ends.{found-at}
use Rattle.litmus_threads.proofs.rounds.outcome_in.Goals as goal

pub returns-in-Some : goal.returns-in-Some
returns-in-Some g c =
    let of_round = rw c.in-Some.is at c.in_ok-audit.ensures in
    IfOk-weaker c.outcome_of.result _ _
    (λ found is. found-at _ (λ values. values.items) _ _ _ _ _ found of_round is)
    (rw c.deref.ensures.value at c.outcome_of.ensures)
