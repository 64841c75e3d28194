use Rattle.std.proofs.Common.{[], ◌∷◌, ◌+◌, ◌≡◌, ◌∙◌, ap, arith, length, length-append, subst, sym}
use Rattle.receipt_ledger.proofs.Ports.{receipt-port, request-port, room-port}
use Rattle.receipt_ledger.specs.Port.{HasRoom, IsEntryOf, PortView, port_with, with_receipt, with_request}
use Rattle.receipt_ledger.specs.declared.receipt.Receipt.{Receipt}
use Rattle.receipt_ledger.specs.Totals.{only_handed, together}
use Rattle.receipt_ledger.proofs.port.Port.perform.Goals as goal

pub invariant_of-self : goal.invariant_of-self
invariant_of-self g c =
    let setup = g.N.SliceNames.setup in
    let number = g.N.SliceNames.number in
    let had = c.self.inside in
    let r : Receipt = record { number = c.args.number; entry = c.entry_at-entry.result.now; slice = had.slice } in
    let old : PortView =
    port_with had.core had.slice had.account.asked had.account.receipts had.seen had.account.room in
    let asking = with_request old c.args.request in
    let roomy = subst HasRoom (sym c.self.view_is) c.requires.room in
    let fewer = c.self.invariant.fewer in
    let more : length asking.asked ≡ length old.asked + 1 =
    length-append old.asked (record { request = c.args.request; seen = old.seen } ∷ []) in
    let room = roomy.receipts in
    let kept = c.keep_done.ensures.room in
    rw (
      c.keep_done.ensures.asked,
      c.keep_done.ensures.receipts,
      c.max-self-inside.ensures,
      c.after.ensures,
    )
    (room-port setup number (with_receipt asking r) c.hand.new.shares c.keep_done.new.self.room
    (receipt-port setup number asking c.accept.new.shares c.hand.new.shares
    (request-port setup number old had.shares c.accept.new.shares c.self.invariant c.accept.ensures.parts c.args.request
    roomy c.accept.ensures.held)
    c.hand.ensures.parts r
    (omega (arith, fewer, more))
    (record {
      slice = c.self.invariant.named;
      entry = subst (λ (p : PortView). IsEntryOf setup number p.core r.entry) (sym c.self.view_is)
          (c.requires.own r.entry c.entry_at-entry.ensures);
    })
    (c.hand.ensures.held
    ∙ ap (λ words. together c.accept.new.shares.held (only_handed words r.entry)) c.requires.words.are))
    (omega (arith, more, room, kept)))
