use Rattle.receipt_ledger.proofs.Accepted.{accepted_are_the_cores}
use Rattle.receipt_ledger.proofs.laws.accepted_are_the_cores_own.Goals as goal

pub returns : goal.returns
returns c = accepted_are_the_cores
