use Rattle.std.proofs.Output.{writes_in_calls_append}
use Rattle.std.proofs.lemmas.Result.{on_ok_weaker}
use Rattle.script_waves.proofs.player.Waved.write_timed.Goals as goal

pub returns : goal.returns
returns g c =
    let then = writes_in_calls_append g.W.Write.write_str_gives in
    on_ok_weaker c.write_command.result
    (λ last. then _ _ _ _ _ c.in_ok-write_time.ensures last)
    c.write_command.ensures
