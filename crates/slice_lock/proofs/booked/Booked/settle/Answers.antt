use Rattle.std.proofs.Common.{map}
use Rattle.slice_lock.proofs.Settled.{settled}
use Rattle.slice_lock.proofs.booked.Booked.settle.Goals as goal

pub returns-clause-settled : goal.returns-clause-settled
returns-clause-settled g c =
    settled g.N.SliceNames.setup g.N.SliceNames.number c.self.inside.state.view (map g.T.Lends.part c.args.ports.now)
    c.in-Some.values.items c.self.invariant.tied.slice.init c.in-Some.ensures.settled
