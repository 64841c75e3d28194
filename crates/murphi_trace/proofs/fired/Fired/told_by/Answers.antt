use Rattle.std.specs.Prelude.{codes}
use Rattle.murphi_trace.specs.Fired.{parts_around}
use Rattle.murphi_trace.proofs.PartLemmas.{from_none, from_some}
use Rattle.murphi_trace.proofs.fired.Fired.told_by.Goals as goal

pub returns-in_default : goal.returns-in_default
returns-in_default c = from_none (parts_around (codes "\"")) _ c.in_default.ensures

pub returns-in_default-parted : goal.returns-in_default-parted
returns-in_default-parted c = from_some (parts_around (codes "\"")) _ _ _ c.in-Some.ensures c.in_default-parted.ensures

pub returns : goal.returns
returns c = from_some (parts_around (codes "\"")) _ _ _ c.in-Some.ensures c.in-Some-parted.ensures
