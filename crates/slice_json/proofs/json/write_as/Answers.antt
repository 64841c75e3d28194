use Rattle.std.proofs.Common.{refl, sym}
use Rattle.std.proofs.Output.{writes_in_calls_append, writes_in_calls_single}
use Rattle.std.proofs.lemmas.Result.{on_ok_weaker}
use Rattle.slice_json.proofs.json.write_as.Goals as goal

pub returns : goal.returns
returns g c =
    let took = g.W.Write.write_str_gives in
    let then = writes_in_calls_append took in
    rw (c.if-plain.false, sym c.hex_digit.ensures.digit, sym c.hex_digit-2.ensures.digit)
    (on_ok_weaker c.write_ascii-3.result
    (λ last. then _ _ _ _ _ (writes_in_calls_single took _ _ _ (c.in_ok-write_str.ensures.ok refl))
    (then _ _ _ _ _ c.in_ok-write_ascii.ensures last))
    c.write_ascii-3.ensures)
