use Rattle.std.proofs.Common.{refl}
use Rattle.std.proofs.Output.{writes_in_calls_append, writes_in_calls_single}
use Rattle.std.proofs.lemmas.Result.{on_ok_weaker}
use Rattle.litmus_script.proofs.WriteLemmas.{on_ok_from}
use Rattle.script_page.proofs.page.write_begin.Goals as goal

pub returns : goal.returns
returns g c =
    let took = g.W.Write.write_str_gives in
    let then = writes_in_calls_append took in
    let one = writes_in_calls_single took in
    on_ok_weaker c.write_str-6.result
    (λ last.
    then _ _ _ _ _ (one _ _ _ (c.in_ok-write_str.ensures.ok refl))
    (then _ _ _ _ _ (one _ _ _ (c.in_ok-write_str-2.ensures.ok refl))
    (then _ _ _ _ _ (one _ _ _ (c.in_ok-write_str-3.ensures.ok refl))
    (then _ _ _ _ _ c.in_ok-write_json.ensures (then _ _ _ _ _ (one _ _ _ (c.in_ok-write_str-4.ensures.ok refl))
    (then _ _ _ _ _ (rw c.requires.cache at c.in_ok-write_json-2.ensures)
    (then _ _ _ _ _ (one _ _ _ (c.in_ok-write_str-5.ensures.ok refl))
    (then _ _ _ _ _ (rw c.requires.directory at c.in_ok-write_json-3.ensures) (one _ _ _ last)))))))))
    (on_ok_from c.write_str-6.result c.write_str-6.ensures.ok)
