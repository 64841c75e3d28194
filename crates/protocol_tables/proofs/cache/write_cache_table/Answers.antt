use Rattle.std.proofs.lemmas.Result.{on_ok_weaker}
use Rattle.std.proofs.Output.{writes_in_calls_append}
use Rattle.protocol_tables.proofs.cache.write_cache_table.Goals as goal

pub returns : goal.returns
returns g c =
    let then = writes_in_calls_append g.W.Write.write_str_gives in
    let answered = rw c.answered.ensures at c.write_part-2.ensures in
    on_ok_weaker c.write_part-2.result
    (λ last. then _ _ _ _ _ (then _ _ _ _ _ c.in_ok-write_part.ensures c.in_ok-writeln.ensures.writes) last)
    answered
