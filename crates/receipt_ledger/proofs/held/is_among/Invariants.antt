use Rattle.receipt_ledger.proofs.Near.{NotNearer}
use Rattle.receipt_ledger.proofs.held.is_among.Given as goal

abbrev pub invariant-loop-distance : goal.invariant-loop-distance
invariant-loop-distance l = NotNearer l.receipts l.wanted l.first l.distance
