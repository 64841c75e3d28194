use Rattle.std.proofs.lemmas.Result.{on_ok_weaker}
use Rattle.std.proofs.Output.{writes_in_calls_append}
use Rattle.protocol_models.proofs.smt.directory.write_entries.Goals as goal

pub returns : goal.returns
returns g c =
    let then = writes_in_calls_append g.W.Write.write_str_gives in
    let terms = rw c.entries.ensures at c.in_ok-write_terms.ensures in
    on_ok_weaker c.write-2.result (λ last. then _ _ _ _ _ (then _ _ _ _ _ c.in_ok-write.ensures.writes terms) last)
    c.write-2.ensures.writes
