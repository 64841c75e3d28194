use Rattle.std.proofs.lemmas.Result.{on_ok_weaker}
use Rattle.std.proofs.Output.{writes_in_calls_append}
use Rattle.protocol_models.proofs.smt.queries.write_queries.Goals as goal

pub returns : goal.returns
returns g c =
    let then = writes_in_calls_append g.W.Write.write_str_gives in
    let front = then _ _ _ _ _ (then _ _ _ _ _ c.in_ok-write_head.ensures c.in_ok-write_entries.ensures)
    c.in_ok-write.ensures.writes in
    let rows = then _ _ _ _ _ (then _ _ _ _ _ front c.in_ok-write_cache_queries.ensures)
    c.in_ok-write_directory_queries.ensures in
    on_ok_weaker c.write-2.result (λ last. then _ _ _ _ _ rows last)
    (rw c.end_of-end.ensures at c.write-2.ensures.writes)
