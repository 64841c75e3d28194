use Rattle.std.proofs.Common.{subst, sym}
use Rattle.receipt_ledger.proofs.Ports.{request-port}
use Rattle.receipt_ledger.specs.Port.{HasRoom}
use Rattle.receipt_ledger.proofs.port.Port.count.Goals as goal

pub invariant_of-self : goal.invariant_of-self
invariant_of-self g c =
    rw (c.keep.ensures)
    (request-port g.N.SliceNames.setup g.N.SliceNames.number _ c.self.inside.shares c.accept.new.shares c.self.invariant
    c.accept.ensures.parts c.args.request (subst HasRoom (sym c.self.view_is) c.requires) c.accept.ensures.held)
