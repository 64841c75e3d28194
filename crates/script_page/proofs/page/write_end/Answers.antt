use Rattle.std.proofs.Common.{refl}
use Rattle.std.proofs.Output.{writes_in_calls_append, writes_in_calls_single}
use Rattle.std.proofs.lemmas.Result.{on_ok_weaker}
use Rattle.script_page.proofs.page.write_end.Goals as goal

pub returns : goal.returns
returns g c =
    let took = g.W.Write.write_str_gives in
    let one = writes_in_calls_single took in
    on_ok_weaker c.write_code.result
    (λ last. writes_in_calls_append took _ _ _ _ _ (one _ _ _ (c.in_ok-write_str.ensures.ok refl)) last)
    c.write_code.ensures
