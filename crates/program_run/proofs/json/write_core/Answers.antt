use Rattle.std.proofs.lemmas.Result.{on_ok_weaker}
use Rattle.std.proofs.Output.{writes_in_calls_append}
use Rattle.program_run.proofs.json.write_core.Goals as goal

pub returns : goal.returns
returns g c =
    let then = writes_in_calls_append g.W.Write.write_str_gives in
    let members = rw c.columns_of_core.ensures at c.in_ok-write_members.ensures in
    on_ok_weaker c.write-2.result
    (λ last. then _ _ _ _ _
    (then _ _ _ _ _
    (then _ _ _ _ _ c.in_ok-write.ensures.writes members) c.in_ok-write_usage.ensures) last)
    c.write-2.ensures.writes
