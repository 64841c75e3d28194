use Rattle.std.proofs.Common.{◌∙◌}
use Rattle.script_prompt.proofs.SessionLemmas.{continued_more}
use Rattle.script_prompt.proofs.session.Session.hand_out.Goals as goal

pub loop-slice-preserved : goal.loop-slice-preserved
loop-slice-preserved g c = record {
  config = c.in_ok-hand_out_of.ensures.config ∙ c.loop-slice.invariant.config;
  plays = continued_more _ _ _ _ _ _ _ _ c.loop-slice.invariant.config c.loop-slice.invariant.plays
      c.in_ok-hand_out_of.ensures.plays;
}
