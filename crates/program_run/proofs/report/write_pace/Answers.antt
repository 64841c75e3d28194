use Rattle.std.proofs.lemmas.Result.{on_ok_weaker}
use Rattle.std.proofs.Output.{writes_in_calls_append}
use Rattle.program_run.proofs.report.write_pace.Goals as goal

pub returns : goal.returns
returns g c =
    let heading = rw c.pace_columns.ensures at c.in_ok-write_heading.ensures in
    rw c.if-not-is_paced.false
    (on_ok_weaker c.write_row.result
    (λ last. writes_in_calls_append g.W.Write.write_str_gives _ _ _ _ _ heading last)
    (rw c.pace_columns-2.ensures at c.write_row.ensures))
