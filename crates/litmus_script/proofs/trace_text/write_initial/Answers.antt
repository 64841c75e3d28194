use Rattle.std.proofs.lemmas.Result.{on_ok_weaker}
use Rattle.std.proofs.Output.{writes_in_calls_single}
use Rattle.litmus_script.proofs.WriteLemmas.{on_ok_from}
use Rattle.litmus_script.proofs.trace_text.write_initial.Goals as goal

pub returns : goal.returns
returns g c =
    rw c.push_initial.ensures at
    rw c.as_str.ensures.value at
    (on_ok_weaker c.write_str.result (λ wrote. writes_in_calls_single g.W.Write.write_str_gives _ _ _ wrote)
    (on_ok_from c.write_str.result c.write_str.ensures.ok))
