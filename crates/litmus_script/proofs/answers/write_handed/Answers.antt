use Rattle.std.proofs.lemmas.Result.{on_ok_weaker}
use Rattle.std.proofs.Output.{writes_in_calls_single}
use Rattle.litmus_script.proofs.answers.write_handed.Goals as goal

pub returns-in-Some : goal.returns-in-Some
returns-in-Some g c =
    rw c.in-Some.is
    (on_ok_weaker c.write_receipt.result
    (λ wrote. writes_in_calls_single g.W.Write.write_str_gives _ _ _ wrote) c.write_receipt.ensures)
