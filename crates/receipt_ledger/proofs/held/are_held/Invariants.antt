use Rattle.std.proofs.Common.{map, take}
use Rattle.receipt_ledger.specs.History.{AreHeld}
use Rattle.receipt_ledger.proofs.held.are_held.Given as goal

abbrev pub invariant-loop-number : goal.invariant-loop-number
invariant-loop-number g l = AreHeld (map g.T.Lends.part l.ports) (take l.number l.log)
