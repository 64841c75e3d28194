use Rattle.std.proofs.lemmas.Result.{on_ok_weaker}
use Rattle.std.proofs.Output.{writes_in_calls_append}
use Rattle.litmus_test.proofs.outcomes.json.write_json.Goals as goal

pub returns : goal.returns
returns g c = λ rounds table.
    let then = writes_in_calls_append g.W.Write.write_str_gives in
    let names = rw c.as_slice.ensures.value at c.in_ok-write_names.ensures in
    let words = rw c.counters.ensures.value at c.in_ok-write_words.ensures in
    let rows = rw c.rows.ensures.rows at c.in_ok-write_rows.ensures in
    on_ok_weaker c.writeln.result
    (λ last. then _ _ _ _ _
    (then _ _ _ _ _
    (then _ _ _ _ _
    (then _ _ _ _ _
    (then _ _ _ _ _ (then _ _ _ _ _ c.in_ok-write.ensures.writes names) c.in_ok-write-2.ensures.writes)
    words) c.in_ok-write-3.ensures.writes) rows) (rw (c.forbidden-count.ensures rounds table) at last))
    c.writeln.ensures.writes
