use Rattle.std.proofs.KnownBytes.{Appends-trans}
use Rattle.std.proofs.lemmas.Result.{on_ok_weaker}
use Rattle.script_json.proofs.object.write_tail.Goals as goal

pub returns : goal.returns
returns g c =
    let then = Appends-trans in
    on_ok_weaker c.write_text-3.result
    (λ last. then _ _ _ _ _ c.in_ok-write_text.ensures.ok (then _ _ _ _ _ c.in_ok-write_text-2.ensures.ok last))
    c.write_text-3.ensures.ok
