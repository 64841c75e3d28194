use Rattle.std.proofs.Common.{◌∙◌, ap, length, sym}
use Rattle.receipt_ledger.proofs.Streaks.{asks_long}
use Rattle.receipt_ledger.specs.Account.{AccountView}
use Rattle.receipt_ledger.proofs.account.Account.accepted.Goals as goal

pub returns : goal.returns
returns c =
    sym (asks_long c.self.inside.streaks.items c.self.inside.accepted c.self.inside.receipts.items)
    ∙ ap (λ (v : AccountView). length v.asked) c.self.view_is
