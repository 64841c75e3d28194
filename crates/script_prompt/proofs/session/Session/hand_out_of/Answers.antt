use Rattle.std.proofs.Common.{◌∙◌}
use Rattle.script_prompt.proofs.SessionLemmas.{continued_more}
use Rattle.script_prompt.proofs.session.Session.hand_out_of.Goals as goal
use Rattle.script_prompt.proofs.session.Session.hand_out_of.Goals.{in-Some+in_ok-play_own, in_default}

pub loop-number-preserved : goal.loop-number-preserved
loop-number-preserved g c = elim c.match-get.branch [
  | in-Some+in_ok-play_own w ↦
      rw w.self-is
      (record {
        config = w.in_ok-play_own.ensures.config ∙ c.loop-number.invariant.config;
        plays = continued_more _ _ _ _ _ _ _ _ c.loop-number.invariant.config c.loop-number.invariant.plays
            w.in_ok-play_own.ensures.plays;
      })
  | in_default w ↦ rw w.self-is c.loop-number.invariant
]
