use Rattle.std.proofs.lemmas.Result.{on_ok_weaker}
use Rattle.std.proofs.Output.{writes_in_calls_append}
use Rattle.protocol_tables.proofs.cache.write_heading.Goals as goal

pub returns : goal.returns
returns g c =
    let then = writes_in_calls_append g.W.Write.write_str_gives in
    on_ok_weaker c.writeln.result
    (λ last. then _ _ _ _ _
    (then _ _ _ _ _
    (then _ _ _ _ _ (then _ _ _ _ _ c.in_ok-write.ensures.writes c.in_ok-write_titles.ensures)
    c.in_ok-write-2.ensures.writes)
    c.in_ok-write_rules.ensures)
    last)
    c.writeln.ensures.writes
