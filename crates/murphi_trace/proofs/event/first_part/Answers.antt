use Rattle.std.proofs.Common.{ap}
use Rattle.murphi_trace.specs.Rule.{first_part, front_of}
use Rattle.murphi_trace.proofs.event.first_part.Goals as goal

pub returns-in-Some : goal.returns-in-Some
unfolding first_part
returns-in-Some c = ap (front_of c.args.text.now) c.in-Some.ensures

pub returns-in-None : goal.returns-in-None
unfolding first_part
returns-in-None c = ap (front_of c.args.text.now) c.in-None.ensures
