use Rattle.std.proofs.KnownBytes.{Appends-trans}
use Rattle.std.proofs.lemmas.Result.{on_ok_weaker}
use Rattle.script_waves.proofs.changes.write_line.Goals as goal

pub returns : goal.returns
returns g c =
    on_ok_weaker c.write_text-2.result
    (λ last. Appends-trans _ _ _ _ _ c.in_ok-write_text.ensures.ok last)
    c.write_text-2.ensures.ok
