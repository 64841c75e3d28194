use Rattle.std.proofs.Common.{refl, ◌∙◌}
use Rattle.litmus_script.proofs.PumpLemmas.{moves_more}
use Rattle.litmus_script.proofs.pump.make_rounds.Goals as goal

pub loop-made-init : goal.loop-made-init
loop-made-init g c = record { config = refl; moves = (refl, refl) }

pub loop-made-preserved : goal.loop-made-preserved
loop-made-preserved g c =
    let slices = c.slices-slices.ensures.count in
    let made = rw (slices, c.in-Moved.is) at c.in_ok-last.ensures.made in
    record {
      config = c.in_ok-last.ensures.config ∙ c.loop-made.invariant.config;
      moves = moves_more g.D.Deliverer.delivers _ _ _ _ _ _ _ _ c.loop-made.invariant.moves made;
    }
