use Rattle.slice_lock.proofs.Bounded.{kept-bounded}
use Rattle.receipt_ledger.proofs.Tied.{performs-tied}
use Rattle.slice_lock.proofs.booked.Booked.deliver_next.Goals as goal

pub invariant_of-self : goal.invariant_of-self
invariant_of-self g c =
    let old = c.self.inside.state in
    let new = c.deliver_next.new.self in
    record {
      tied =
          performs-tied g.N.SliceNames.setup g.N.SliceNames.number c.self.inside.book old new c.self.invariant.tied
          c.deliver_next.ensures.same c.deliver_next.ensures.machine;
      bounded = kept-bounded g.N.SliceNames.setup _ old new c.deliver_next.ensures.same c.self.invariant.bounded;
    }
