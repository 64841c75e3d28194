use Rattle.std.proofs.KnownBytes.{Appends-trans}
use Rattle.std.proofs.lemmas.Result.{on_ok_weaker}
use Rattle.script_waves.proofs.player.Waved.write_values.Goals as goal

pub returns-clause-written : goal.returns-clause-written
returns-clause-written g c =
    on_ok_weaker c.tell_lines.result
    (λ last. Appends-trans _ _ _ _ _ c.in_ok-write_uses.ensures.written last)
    c.tell_lines.ensures.told
