use Rattle.std.proofs.lemmas.Result.{on_ok_weaker}
use Rattle.std.proofs.Output.{writes_in_calls_append}
use Rattle.script_json.proofs.held.write_held.Goals as goal

pub returns : goal.returns
returns g c =
    let then = writes_in_calls_append g.W.Write.write_str_gives in
    on_ok_weaker c.write-3.result
    (λ last. then _ _ _ _ _ c.in_ok-write.ensures.writes
    (then _ _ _ _ _ c.in_ok-write_line_in.ensures
    (then _ _ _ _ _ c.in_ok-write-2.ensures.writes (then _ _ _ _ _ c.in_ok-write_copies.ensures last))))
    c.write-3.ensures.writes
