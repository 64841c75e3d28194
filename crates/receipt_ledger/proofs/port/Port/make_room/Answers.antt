use Rattle.std.proofs.Common.{◌≤◌, length, subst}
use Rattle.std.specs.Prelude.{List}
use Rattle.receipt_ledger.proofs.Ports.{room-port}
use Rattle.receipt_ledger.specs.declared.receipt.Ask.{Ask}
use Rattle.receipt_ledger.proofs.port.Port.make_room.Goals as goal

pub invariant_of-self : goal.invariant_of-self
invariant_of-self g c =
    let room = c.make_room.new.self.room in
    rw (c.make_room.ensures.asked, c.make_room.ensures.receipts)
    (room-port g.N.SliceNames.setup g.N.SliceNames.number _ c.self.inside.shares room c.self.invariant
    (subst (λ (asked : List Ask). length asked ≤ room.receipts) c.make_room.ensures.asked c.make_room.ensures.reserved))
