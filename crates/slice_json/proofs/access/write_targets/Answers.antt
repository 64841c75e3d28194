use Rattle.std.proofs.lemmas.Result.{on_ok_weaker}
use Rattle.std.proofs.Output.{writes_in_calls_append}
use Rattle.slice_json.proofs.access.write_targets.Goals as goal

pub returns : goal.returns
returns g c =
    let then = writes_in_calls_append g.W.Write.write_str_gives in
    on_ok_weaker c.write-2.result
    (λ last. then _ _ _ _ _ c.in_ok-write.ensures.writes (then _ _ _ _ _ c.in_ok-write_each_target.ensures last))
    c.write-2.ensures.writes
