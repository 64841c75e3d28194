use Rattle.std.proofs.KnownBytes.{Appends-trans}
use Rattle.std.proofs.lemmas.Result.{on_ok_weaker}
use Rattle.script_json.proofs.object.write_object.Goals as goal

pub returns : goal.returns
returns g c =
    on_ok_weaker c.end.result
    (λ last. Appends-trans _ _ _ _ _ c.in_ok-begin.ensures (Appends-trans _ _ _ _ _ c.in_ok-write_call.ensures last))
    c.end.ensures
