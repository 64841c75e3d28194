use Rattle.std.proofs.KnownBytes.{Appends-trans}
use Rattle.std.proofs.lemmas.Result.{on_ok_weaker}
use Rattle.script_json.proofs.item.write_item.Goals as goal

pub returns-clause-written : goal.returns-clause-written
returns-clause-written g c =
    on_ok_weaker c.end.result (λ last. Appends-trans _ _ _ _ _ c.in_ok-begin.ensures.begun last) c.end.ensures.ended
