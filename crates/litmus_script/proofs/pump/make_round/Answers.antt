use Rattle.std.proofs.Common.{refl, ◌∙◌}
use Rattle.litmus_script.proofs.PumpLemmas.{comes_to_more, comes_to_nothing}
use Rattle.litmus_script.proofs.pump.make_round.Goals as goal

pub loop-slice-init : goal.loop-slice-init
loop-slice-init g c = record { config = refl; made = comes_to_nothing g.D.Deliverer.delivers _ _ }

pub loop-slice-preserved : goal.loop-slice-preserved
loop-slice-preserved g c = record {
  config = c.in_ok-delivered.ensures.config ∙ c.loop-slice.invariant.config;
  made = comes_to_more g.D.Deliverer.delivers _ _ _ _ _ _ _ _ _ _ c.loop-slice.invariant.made
      c.in_ok-delivered.ensures.delivers c.after-round.ensures;
}
