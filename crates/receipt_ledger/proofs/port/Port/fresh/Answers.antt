use Rattle.receipt_ledger.proofs.Ports.{fresh-port}
use Rattle.receipt_ledger.proofs.port.Port.fresh.Goals as goal

pub invariant_of-result : goal.invariant_of-result
invariant_of-result g c =
    rw (c.new.ensures)
    (fresh-port g.N.SliceNames.setup g.N.SliceNames.number c.args.core c.args.slice c.args.shares c.requires.known
    c.requires.named c.requires.part c.requires.nothing)
