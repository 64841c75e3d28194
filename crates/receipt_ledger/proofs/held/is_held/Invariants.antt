use Rattle.std.proofs.Common.{◌≡◌, None, map, take}
use Rattle.std.specs.Prelude.{◌==◌, find}
use Rattle.receipt_ledger.specs.Port.{PortView}
use Rattle.receipt_ledger.proofs.held.is_held.Given as goal

abbrev pub invariant-loop-lender : goal.invariant-loop-lender
invariant-loop-lender g l =
    find (λ (p : PortView). p.core.0 == l.entry.core.0) (take l.lender-index (map g.T.Lends.part l.ports)) ≡ None
