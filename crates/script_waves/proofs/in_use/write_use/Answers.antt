use Rattle.std.proofs.Output.{writes_in_calls_append}
use Rattle.std.proofs.lemmas.Result.{on_ok_weaker}
use Rattle.script_waves.proofs.in_use.write_use.Goals as goal

pub returns : goal.returns
returns g c =
    let then = writes_in_calls_append g.W.Write.write_str_gives in
    on_ok_weaker c.write_count-3.result
    (λ last. then _ _ _ _ _ c.in_ok-write_count.ensures (then _ _ _ _ _ c.in_ok-write_count-2.ensures last))
    c.write_count-3.ensures
