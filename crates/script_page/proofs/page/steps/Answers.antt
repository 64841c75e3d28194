use Rattle.std.proofs.lemmas.Result.{on_ok_weaker}
use Rattle.script_page.proofs.page.steps.Goals as goal

pub returns-in-Ok-clause-steps : goal.returns-in-Ok-clause-steps
returns-in-Ok-clause-steps g c =
    let contents = g.W.Write.contents in
    let played = c.in-Ok.ensures.played in
    on_ok_weaker c.end.result
    (λ ended. record { end = played.0; last = contents c.play_steps.new.out; played = played.1; ended = ended })
    c.end.ensures.ended
