use Rattle.std.specs.Prelude.{◌≡◌, ◌+◌}
use Rattle.receipt_ledger.specs.Port.{AreFreshPorts}
use Rattle.receipt_ledger.specs.Totals.{nothing}
use Rattle.receipt_ledger.proofs.open.cut_ports.Given as goal

abbrev pub invariant-loop-core : goal.invariant-loop-core
invariant-loop-core g l =
    (l.shares.parts + l.core ≡ l.cores) × (l.shares.held ≡ nothing) × AreFreshPorts l.slice l.core l.ports.items
