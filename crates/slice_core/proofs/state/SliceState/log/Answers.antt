use Rattle.std.proofs.Common.{subst}
use Rattle.slice_core.proofs.Coherent.{holds}
use Rattle.slice_core.proofs.state.SliceState.log.Goals as goal
use Rattle.slice_core.specs.Facts.{Holds}

pub returns-clause-holds : goal.returns-clause-holds
returns-clause-holds g c = subst Holds c.self.view_is (holds c.self.inside.parts c.self.invariant)
