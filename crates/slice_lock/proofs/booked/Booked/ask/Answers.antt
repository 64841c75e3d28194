use Rattle.slice_lock.proofs.Bounded.{kept-bounded}
use Rattle.slice_lock.proofs.booked.Booked.ask.Goals as goal

pub invariant_of-self : goal.invariant_of-self
invariant_of-self g c =
    let old = c.self.inside.state in
    let new = c.ask.new.state in
    record {
      tied = c.ask.ensures.tied;
      bounded = kept-bounded g.N.SliceNames.setup _ old new c.ask.ensures.same c.self.invariant.bounded;
    }
