use Rattle.std.specs.Prelude.{codes}
use Rattle.murphi_trace.specs.Fired.{before}
use Rattle.murphi_trace.proofs.PartLemmas.{from_none, from_some}
use Rattle.murphi_trace.proofs.fired.between.Goals as goal

pub returns-in_default : goal.returns-in_default
returns-in_default c = from_none (before (codes " fired.")) _ c.in_default.ensures

pub returns : goal.returns
returns c = from_some (before (codes " fired.")) _ _ _ c.in-Some.ensures c.in_front.ensures
