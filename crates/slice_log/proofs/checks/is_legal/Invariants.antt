use Rattle.std.proofs.Common.{take}
use Rattle.slice_log.specs.Log.{initially, IsLegal}
use Rattle.slice_log.proofs.checks.is_legal.Given as goal

abbrev pub invariant-loop-number : goal.invariant-loop-number
invariant-loop-number l = IsLegal (initially l.init) (take l.number l.log)
