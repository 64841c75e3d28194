use Rattle.std.proofs.lemmas.Result.{on_ok_weaker}
use Rattle.std.proofs.Output.{writes_in_calls_single}
use Rattle.litmus_script.proofs.answers.write_delivered.Goals as goal

pub returns-in-Moved : goal.returns-in-Moved
returns-in-Moved g c =
    rw c.in-Moved.is
    (on_ok_weaker c.write_whole.result
    (λ wrote. writes_in_calls_single g.W.Write.write_str_gives _ _ _ wrote) c.write_whole.ensures)
