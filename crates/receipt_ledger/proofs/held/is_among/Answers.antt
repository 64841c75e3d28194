use Rattle.std.proofs.Common.{◌∙◌, arith, refl, sym}
use Rattle.std.proofs.lemmas.Bool.{false≢true}
use Rattle.receipt_ledger.proofs.Near.{not-contained, not-further, not-nearest, so-far-contained}
use Rattle.receipt_ledger.proofs.held.is_among.Goals as goal

pub loop-distance-init : goal.loop-distance-init
loop-distance-init c = not-nearest c.args.receipts.now c.args.wanted.now _

pub returns-then-is_so_far : goal.returns-then-is_so_far
returns-then-is_so_far c = (
  λ t. so-far-contained c.args.receipts.now c.args.wanted.now _ c.loop-distance.distance
      (c.is_so_far.ensures.0 c.if-is_so_far.true),
  λ there. refl,
)

pub loop-distance-preserved : goal.loop-distance-preserved
loop-distance-preserved c =
    not-further c.args.receipts.now c.args.wanted.now _ c.loop-distance.distance c.loop-distance.invariant
    (λ so_far. absurd (false≢true (sym c.if-is_so_far.false ∙ c.is_so_far.ensures.1 so_far)))

pub returns : goal.returns
returns c = (
  λ t. absurd (false≢true t),
  λ there. absurd (not-contained c.args.receipts.now c.args.wanted.now _ c.loop-distance.distance (omega arith)
      (omega arith) c.loop-distance.invariant there),
)
