use Rattle.std.proofs.Common.{◌∙◌, List, ap, subst, sym}
use Rattle.receipt_ledger.specs.Port.{AreOwn, PortView}
use Rattle.receipt_ledger.specs.declared.receipt.Receipt.{Receipt}
use Rattle.receipt_ledger.proofs.port.Port.receipts.Goals as goal

pub returns-clause-own : goal.returns-clause-own
returns-clause-own g c =
    let setup = g.N.SliceNames.setup in
    let number = g.N.SliceNames.number in
    let port = c.args.self.now in
    let same = c.receipts.ensures ∙ ap (λ (p : PortView). p.receipts) c.self.view_is in
    subst (λ (receipts : List Receipt). AreOwn setup number port.core receipts) (sym same)
    (subst (λ (p : PortView). AreOwn setup number p.core p.receipts) c.self.view_is c.self.invariant.own)
