use Rattle.std.proofs.Common.{refl}
use Rattle.std.proofs.Output.{writes_in_calls_append, writes_in_calls_single}
use Rattle.std.proofs.lemmas.Result.{on_ok_weaker}
use Rattle.script_page.specs.Page.{code_of_diagram}
use Rattle.litmus_script.proofs.WriteLemmas.{on_ok_from}
use Rattle.script_page.proofs.page.write_diagram.Goals as goal

pub returns : goal.returns
unfolding code_of_diagram
returns g c =
    let took = g.W.Write.write_str_gives in
    let then = writes_in_calls_append took in
    let one = writes_in_calls_single took in
    on_ok_weaker c.write_str-7.result
    (λ last.
    then _ _ _ _ _ (one _ _ _ (c.in_ok-write_str.ensures.ok refl))
    (then _ _ _ _ _ (one _ _ _ (c.in_ok-write_str-2.ensures.ok refl))
    (then _ _ _ _ _ (one _ _ _ (c.in_ok-write_str-3.ensures.ok refl))
    (then _ _ _ _ _ (one _ _ _ (c.in_ok-write_str-4.ensures.ok refl))
    (then _ _ _ _ _ (one _ _ _ (c.in_ok-write_str-5.ensures.ok refl))
    (then _ _ _ _ _ (one _ _ _ (c.in_ok-write_str-6.ensures.ok refl)) (one _ _ _ last)))))))
    (on_ok_from c.write_str-7.result c.write_str-7.ensures.ok)
