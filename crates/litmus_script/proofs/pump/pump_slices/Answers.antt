use Rattle.std.proofs.Common.{arith}
use Rattle.litmus_script.proofs.PumpLemmas.{pumps_empty, pumps_out, pumps_stuck}
use Rattle.litmus_script.proofs.pump.pump_slices.Goals as goal

pub returns-in-Empty-clause-pumped : goal.returns-in-Empty-clause-pumped
returns-in-Empty-clause-pumped g c =
    pumps_empty g.D.Deliverer.delivers _ _ _ _ _ _ (rw (c.slices-slices.ensures.count, c.in-Empty.is)
    at c.in_ok-make_rounds.ensures.made)

pub returns-in-Stuck-clause-pumped : goal.returns-in-Stuck-clause-pumped
returns-in-Stuck-clause-pumped g c =
    pumps_stuck g.D.Deliverer.delivers _ _ _ _ _ _ (rw (c.slices-slices.ensures.count, c.in-Stuck.is)
    at c.in_ok-make_rounds.ensures.made)

pub returns-in_ok-make_round-in-Moved-clause-pumped : goal.returns-in_ok-make_round-in-Moved-clause-pumped
returns-in_ok-make_round-in-Moved-clause-pumped g c =
    let some = c.slices-slices.ensures.some in
    pumps_out g.D.Deliverer.delivers _ _ _ _ _ _ _ _ _ (omega (arith, some, c.slices-slices.ensures.count))
    (rw (c.slices-slices.ensures.count, c.in-Moved.is) at c.in_ok-make_rounds.ensures.made)
    (rw c.slices-slices.ensures.count at c.in_ok-make_round-in-Moved.ensures.made)
