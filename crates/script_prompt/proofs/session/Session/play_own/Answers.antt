use Rattle.script_prompt.proofs.SessionLemmas.{continued_none, continued_one}
use Rattle.script_prompt.proofs.session.Session.play_own.Goals as goal
use Rattle.script_prompt.proofs.session.Session.play_own.Goals.{in-Some+in_ok-play, in_default-next}

pub returns-clause-plays : goal.returns-clause-plays
returns-clause-plays g c = elim c.match-next.branch [
  | in-Some+in_ok-play w ↦
      rw w.self-is
      (continued_one _ _ _ _ _ _ _ _ _ _ w.in-Some.statement.words_of_line w.in_ok-play.ensures.played)
  | in_default-next w ↦ rw w.self-is (continued_none _ _ _)
]
