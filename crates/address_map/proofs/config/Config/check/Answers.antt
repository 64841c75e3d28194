use Rattle.std.proofs.Common.{sym}
use Rattle.address_map.proofs.Limits.{IsAllowed-from_no_fault}
use Rattle.address_map.proofs.config.Config.check.Goals as goal

pub invariant_of-result : goal.invariant_of-result
invariant_of-result c = IsAllowed-from_no_fault c.args.self (sym c.in-None.ensures)

pub returns-in-None-clause-allowed : goal.returns-in-None-clause-allowed
returns-in-None-clause-allowed c = IsAllowed-from_no_fault c.args.self (sym c.in-None.ensures)
