use Rattle.std.proofs.Common.{inr}
use Rattle.script_coverage.proofs.run.trail_of.Goals as goal

pub returns : goal.returns
returns c =
    let stopped = rw (c.in_ok-machine.ensures.config, c.new-trail.ensures.items) at c.in-Err.ensures.fault in
    record {
      played = tt;
      fault = inr (_, inr (record { start = _; fresh = c.in_ok-machine.ensures.new; stopped = stopped }));
    }
