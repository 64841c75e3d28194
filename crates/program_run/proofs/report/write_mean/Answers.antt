use Rattle.std.proofs.lemmas.Result.{on_ok_weaker}
use Rattle.std.proofs.Output.{writes_in_calls_append}
use Rattle.program_run.proofs.report.write_mean.Goals as goal

pub returns : goal.returns
returns g c =
    let then = writes_in_calls_append g.W.Write.write_str_gives in
    let whole = rw c.whole_of.ensures at c.in_ok-write_number.ensures in
    on_ok_weaker c.write.result
    (λ last. then _ _ _ _ _ whole (rw c.hundredths_of-hundredths.ensures.hundredths at last))
    c.write.ensures.writes
