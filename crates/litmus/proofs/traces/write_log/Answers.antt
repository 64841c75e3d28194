use Rattle.std.proofs.KnownBytes.{Appends-trans}
use Rattle.std.proofs.lemmas.Result.{on_ok_weaker}
use Rattle.litmus.proofs.traces.write_log.Goals as goal

pub returns-clause-written : goal.returns-clause-written
returns-clause-written g c =
    on_ok_weaker c.show.result
    (λ shown. Appends-trans _ _ _ _ _ c.in_ok-name_slice.ensures.named shown.printed.1)
    c.show.ensures.printed
