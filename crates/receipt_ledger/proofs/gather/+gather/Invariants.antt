use Rattle.std.specs.Prelude.{◌+◌, ◌*◌, length}
use Rattle.receipt_ledger.proofs.gather.+gather.Given as goal

abbrev pub decreases-gather : goal.decreases-gather
decreases-gather g l = 3 * length l.ports.now

abbrev pub decreases-gather_first : goal.decreases-gather_first
decreases-gather_first g l = 3 * length l.rest.now + 2

abbrev pub decreases-gather_port : goal.decreases-gather_port
decreases-gather_port g l = 3 * length l.rest.now + 1
