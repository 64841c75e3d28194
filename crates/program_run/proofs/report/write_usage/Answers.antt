use Rattle.std.proofs.lemmas.Result.{on_ok_weaker}
use Rattle.std.proofs.Output.{writes_in_calls_append}
use Rattle.program_run.proofs.report.write_usage.Goals as goal

pub returns : goal.returns
returns g c =
    let then = writes_in_calls_append g.W.Write.write_str_gives in
    on_ok_weaker c.writeln.result
    (λ last. then _ _ _ _ _
    (then _ _ _ _ _
    (then _ _ _ _ _
    (then _ _ _ _ _
    (then _ _ _ _ _ c.in_ok-write_number.ensures c.in_ok-write_number-2.ensures) c.in_ok-write_mean.ensures)
    c.in_ok-write_number-3.ensures) c.in_ok-write_mean-2.ensures) last)
    c.writeln.ensures.writes
