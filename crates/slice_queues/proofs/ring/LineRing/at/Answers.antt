use Rattle.std.proofs.Common.{◌≡◌, ap, arith, Some, rules}
use Rattle.std.specs.Prelude.{slice_get}
use Rattle.slice_queues.proofs.RingLaws.{listed-below, listed-get}
use Rattle.slice_queues.proofs.ring.LineRing.at.Goals as goal

pub returns-clause-there : goal.returns-clause-there
returns-clause-there c =
    let got : slice_get c.self.inside.order.items c.args.index ≡ Some c.in-Some.line.now = search rules in
    omega (
      arith,
      ap (λ r. r.lines) c.self.view_is,
      listed-below _ _ _ c.in-Some.line.now c.self.invariant (listed-get _ c.args.index c.in-Some.line.now got),
    )
