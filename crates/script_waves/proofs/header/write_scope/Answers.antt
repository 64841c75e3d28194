use Rattle.std.proofs.Output.{writes_in_calls_append}
use Rattle.std.proofs.lemmas.Result.{on_ok_weaker}
use Rattle.script_waves.proofs.header.write_scope.Goals as goal

pub returns : goal.returns
returns g c =
    let then = writes_in_calls_append g.W.Write.write_str_gives in
    on_ok_weaker c.writeln.result
    (λ last. then _ _ _ _ _ c.in_ok-write_opening.ensures (then _ _ _ _ _ c.in_ok-write_signal.ensures
    (then _ _ _ _ _ c.in_ok-write_copies.ensures (then _ _ _ _ _ c.in_ok-write_signal-2.ensures
    (then _ _ _ _ _ c.in_ok-write_total.ensures last)))))
    c.writeln.ensures.writes
