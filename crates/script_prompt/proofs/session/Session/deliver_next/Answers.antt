use Rattle.std.proofs.lemmas.Result.{on_ok_weaker}
use Rattle.script_prompt.proofs.SessionLemmas.{continued_more}
use Rattle.script_prompt.proofs.session.Session.deliver_next.Goals as goal

pub returns-in-Moved-clause-plays : goal.returns-in-Moved-clause-plays
returns-in-Moved-clause-plays g c =
    on_ok_weaker c.hand_out.result
    (λ more. continued_more _ _ _ _ _ _ _ _ c.in_ok-play_own.ensures.config c.in_ok-play_own.ensures.plays more)
    c.hand_out.ensures.plays
