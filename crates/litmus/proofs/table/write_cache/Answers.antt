use Rattle.std.proofs.Output.{writes_in_calls_append}
use Rattle.std.proofs.lemmas.Result.{on_ok_weaker}
use Rattle.litmus.proofs.table.write_cache.Goals as goal

pub returns : goal.returns
returns g c =
    on_ok_weaker c.write.result
    (λ last. writes_in_calls_append g.W.Write.write_str_gives _ _ _ _ _ c.in_ok-write_cache_table.ensures last)
    c.write.ensures.writes
