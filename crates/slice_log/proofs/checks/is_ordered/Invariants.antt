use Rattle.std.proofs.Common.{take}
use Rattle.slice_log.specs.Log.{IsOrdered}
use Rattle.slice_log.proofs.checks.is_ordered.Given as goal

abbrev pub invariant-loop-number : goal.invariant-loop-number
invariant-loop-number l = IsOrdered (take l.number l.log)
