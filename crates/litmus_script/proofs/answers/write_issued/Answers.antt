use Rattle.std.proofs.lemmas.Result.{on_ok_weaker}
use Rattle.std.proofs.Output.{writes_in_calls_single}
use Rattle.litmus_script.proofs.answers.write_issued.Goals as goal

pub returns-in-Done : goal.returns-in-Done
returns-in-Done g c =
    rw c.in-Done.is
    (on_ok_weaker c.write_done.result
    (λ wrote. writes_in_calls_single g.W.Write.write_str_gives _ _ _ wrote) c.write_done.ensures)
