use Rattle.litmus_threads.proofs.Dealing.{deal-more}
use Rattle.litmus_threads.proofs.crew.Crew.deal.Goals as goal

pub loop-set-preserved : goal.loop-set-preserved
loop-set-preserved g c = deal-more _ _ _ _ _ _ _ _ _ c.new-in-loop-set.ensures (c.in_ok-take.ensures _ c.loop-set.invariant)
