use Rattle.std.proofs.lemmas.Result.{on_ok_weaker}
use Rattle.std.proofs.Output.{writes_in_calls_append}
use Rattle.program_run.proofs.json.write_pace.Goals as goal

pub returns : goal.returns
returns g c =
    let then = writes_in_calls_append g.W.Write.write_str_gives in
    rw c.if-not-is_paced.false
    (on_ok_weaker c.write_members.result
    (λ last. then _ _ _ _ _ (then _ _ _ _ _ c.in_ok-write_moves.ensures c.in_ok-write.ensures.writes) last)
    (rw c.pace_columns.ensures at c.write_members.ensures))
