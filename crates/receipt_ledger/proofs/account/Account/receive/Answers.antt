use Rattle.std.proofs.Common.{[], ◌∷◌, ◌++◌, ◌∙◌, ap}
use Rattle.std.specs.Prelude.{vec_capacity}
use Rattle.receipt_ledger.proofs.Streaks.{receive-account, receive-streaks}
use Rattle.receipt_ledger.specs.Account.{AccountView}
use Rattle.receipt_ledger.proofs.account.Account.receive.Goals as goal

pub invariant_of-self : goal.invariant_of-self
invariant_of-self c =
    let had = c.self.inside in
    rw (c.push_reserved.ensures.items)
    (receive-streaks had.streaks.items had.accepted had.receipts.items c.self.invariant c.args.receipt)

pub returns : goal.returns
returns c =
    let had = c.self.inside in
    rw (c.push_reserved.ensures.items, c.push_reserved.ensures.capacity)
    (receive-account had.streaks.items had.accepted had.receipts.items c.self.invariant (vec_capacity had.streaks)
    (vec_capacity had.receipts) c.args.receipt
    ∙ ap (λ (v : AccountView). record v { receipts = v.receipts ++ c.args.receipt ∷ [] }) c.self.view_is)
