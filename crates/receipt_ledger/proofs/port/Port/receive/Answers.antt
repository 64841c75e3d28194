use Rattle.std.proofs.Common.{◌<◌, ◌∙◌, ap, length, subst, sym}
use Rattle.receipt_ledger.proofs.Ports.{receipt-port}
use Rattle.receipt_ledger.specs.Port.{IsEntryOf, PortView}
use Rattle.receipt_ledger.specs.declared.receipt.Receipt.{Receipt}
use Rattle.receipt_ledger.specs.Totals.{only_handed, together}
use Rattle.receipt_ledger.proofs.port.Port.receive.Goals as goal

pub invariant_of-self : goal.invariant_of-self
invariant_of-self g c =
    let r : Receipt = record {
      number = c.args.number;
      entry = c.entry_at-entry.result.now;
      slice = c.self.inside.slice;
    } in
    rw (
      c.receive.ensures,
      c.max-self-inside.ensures,
      c.after.ensures,
    )
    (receipt-port g.N.SliceNames.setup g.N.SliceNames.number _ c.self.inside.shares c.hand.new.shares c.self.invariant
    c.hand.ensures.parts r
    (subst (λ (p : PortView). length p.receipts < length p.asked) (sym c.self.view_is) c.requires.waiting)
    (record {
      slice = c.self.invariant.named;
      entry = subst (λ (p : PortView). IsEntryOf g.N.SliceNames.setup g.N.SliceNames.number p.core r.entry)
          (sym c.self.view_is) (c.requires.own r.entry c.entry_at-entry.ensures);
    })
    (c.hand.ensures.held
    ∙ ap (λ words. together c.self.inside.shares.held (only_handed words r.entry)) c.requires.words.are))
