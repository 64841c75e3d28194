use Rattle.std.specs.Prelude.{◌≡◌, ◌+◌}
use Rattle.receipt_ledger.proofs.Gathered.{GivesBack}
use Rattle.receipt_ledger.proofs.gather.give_back.Given as goal

abbrev pub invariant-loop-receipt : goal.invariant-loop-receipt
invariant-loop-receipt g l = record {
  parts : l.from.parts + 1 ≡ l.fn.from.parts;
  one : l.to.parts ≡ 1;
  gives : GivesBack l.words l.accepted l.receipts l.receipt-index l.fn.from.held l.from.held l.to.held;
}
