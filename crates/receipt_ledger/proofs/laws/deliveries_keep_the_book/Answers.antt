use Rattle.receipt_ledger.proofs.Tied.{performs-tied, same-tied}
use Rattle.receipt_ledger.proofs.laws.deliveries_keep_the_book.Goals as goal

pub returns-clause-delivered : goal.returns-clause-delivered
returns-clause-delivered c = performs-tied

pub returns-clause-evicted : goal.returns-clause-evicted
returns-clause-evicted c = same-tied
