use Rattle.std.proofs.Output.{writes_in_calls_append}
use Rattle.std.proofs.lemmas.Result.{on_ok_weaker}
use Rattle.script_waves.proofs.core_header.write_core.Goals as goal

pub returns : goal.returns
returns g c =
    let then = writes_in_calls_append g.W.Write.write_str_gives in
    on_ok_weaker c.writeln-2.result
    (λ last. then _ _ _ _ _ c.in_ok-writeln.ensures.writes (then _ _ _ _ _ c.in_ok-write_number.ensures
    (then _ _ _ _ _ c.in_ok-write_number-2.ensures (then _ _ _ _ _ c.in_ok-write_number-3.ensures last))))
    c.writeln-2.ensures.writes
