use Rattle.std.proofs.lemmas.Result.{on_ok_weaker}
use Rattle.std.proofs.Output.{writes_in_calls_append}
use Rattle.program_run.proofs.report.write_usages.Goals as goal

pub returns : goal.returns
returns g c =
    rw c.if-not-is_limited.false
    (on_ok_weaker c.write_usage_rows.result
    (λ last. writes_in_calls_append g.W.Write.write_str_gives _ _ _ _ _ c.in_ok-writeln.ensures.writes last)
    c.write_usage_rows.ensures)
