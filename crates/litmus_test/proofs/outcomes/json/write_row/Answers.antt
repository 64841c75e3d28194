use Rattle.std.proofs.lemmas.Result.{on_ok_weaker}
use Rattle.std.proofs.Output.{writes_in_calls_append}
use Rattle.litmus_test.proofs.outcomes.json.write_row.Goals as goal

pub returns : goal.returns
returns g c =
    let then = writes_in_calls_append g.W.Write.write_str_gives in
    let rounds = rw c.rounds-count.ensures at c.in_ok-write.ensures.writes in
    let values = rw c.values.ensures at c.in_ok-write_values.ensures in
    let seed = rw c.first.ensures at c.in_ok-write_seed.ensures in
    on_ok_weaker c.write-3.result
    (λ last. then _ _ _ _ _
    (then _ _ _ _ _ (then _ _ _ _ _ (then _ _ _ _ _ rounds values) c.in_ok-write-2.ensures.writes) seed) last)
    c.write-3.ensures.writes
