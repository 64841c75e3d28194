use Rattle.std.proofs.Common.{refl}
use Rattle.std.proofs.Output.{writes_in_calls_append, writes_in_calls_single}
use Rattle.std.proofs.lemmas.Result.{on_ok_weaker}
use Rattle.slice_json.proofs.WriteLemmas.{on_ok_from}
use Rattle.slice_json.proofs.json.write_json.Goals as goal

pub returns : goal.returns
returns g c =
    let took = g.W.Write.write_str_gives in
    let then = writes_in_calls_append took in
    let one = writes_in_calls_single took in
    on_ok_weaker c.write_str-2.result
    (λ last. then _ _ _ _ _ (one _ _ _ (c.in_ok-write_str.ensures.ok refl))
    (then _ _ _ _ _ c.in_ok-write_bytes.ensures (one _ _ _ last)))
    (on_ok_from c.write_str-2.result c.write_str-2.ensures.ok)
