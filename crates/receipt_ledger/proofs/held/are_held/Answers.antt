use Rattle.std.proofs.Common.{◌∙◌, map, sym}
use Rattle.std.proofs.lemmas.Bool.{false≢true}
use Rattle.std.proofs.lemmas.Option.{slice_get-get_or}
use Rattle.receipt_ledger.proofs.Compared.{each-more}
use Rattle.receipt_ledger.specs.History.{IsHeld}
use Rattle.receipt_ledger.proofs.held.are_held.Goals as goal

pub returns-then-not-is_held : goal.returns-then-not-is_held
returns-then-not-is_held g c = (
  λ t. absurd (false≢true t),
  λ all.
      let held =
      c.is_held.ensures.1
      (all c.loop-number.number _ (slice_get-get_or c.args.log.now c.loop-number.number _ c.loop-number-test.true)) in
      absurd (false≢true (sym c.if-not-is_held.true ∙ held)),
)

pub loop-number-preserved : goal.loop-number-preserved
loop-number-preserved g c =
    each-more (IsHeld (map g.T.Lends.part c.args.ports.now)) c.args.log.now c.loop-number.number
    _ c.loop-number.invariant
    c.loop-number-test.true (c.is_held.ensures.0 c.if-not-is_held.false)
