use Rattle.std.proofs.Common.{[], ◌∷◌, ◌++◌, ◌<◌, ◌^◌, ◌∙◌, ap, arith, length, rules, subst, sym}
use Rattle.receipt_ledger.proofs.Streaks.{asks_long, on-asks, on-held, on-streaks}
use Rattle.receipt_ledger.specs.Account.{AccountView}
use Rattle.receipt_ledger.proofs.account.Account.keep_done.Goals as goal

pub overflow_add-self : goal.overflow_add-self
overflow_add-self c =
    let had = c.self.inside in
    let long = asks_long had.streaks.items had.accepted had.receipts.items in
    let roomy =
    subst (λ (v : AccountView). length v.asked < v.room.receipts) (sym c.self.view_is) c.requires.receipts_room in
    let room = c.capacity-room.ensures in
    let small = c.capacity-room.type_inv in
    omega (arith, long, roomy, room, small)

pub invariant_of-self : goal.invariant_of-self
invariant_of-self c =
    let had = c.self.inside in
    let small : c.args.ask.seen < 2 ^ 64 = search rules in
    rw (c.push_reserved.ensures.items)
    (on-streaks had.streaks.items had.accepted had.receipts.items c.self.invariant c.args.ask c.args.receipt
    c.requires.named (on-held _ _ _ _ _ _ c.deref.ensures.value c.deref-2.ensures.value
    (c.goes_on.ensures c.if-goes_on.true)) small)

pub returns-then-goes_on-clause-asked : goal.returns-then-goes_on-clause-asked
returns-then-goes_on-clause-asked c =
    let had = c.self.inside in
    rw (c.push_reserved.ensures.items)
    (on-asks had.streaks.items had.accepted had.receipts.items c.self.invariant c.args.ask c.args.receipt
    c.requires.named (on-held _ _ _ _ _ _ c.deref.ensures.value c.deref-2.ensures.value
    (c.goes_on.ensures c.if-goes_on.true))
    ∙ ap (λ (v : AccountView). v.asked ++ c.args.ask ∷ []) c.self.view_is)
