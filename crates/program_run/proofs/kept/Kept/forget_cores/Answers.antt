use Rattle.std.proofs.Common.{◌∙◌, arith, length-set, None}
use Rattle.program_run.proofs.KeptLemmas.{empties, empty_more}
use Rattle.program_run.proofs.kept.Kept.forget_cores.Goals as goal

pub loop-place-preserved : goal.loop-place-preserved
loop-place-preserved c = (
  length-set _ c.loop-place.place None ∙ c.loop-place.invariant.0,
  empty_more c.loop-place.self.decided.items c.loop-place.place
      (omega (arith, c.loop-place-test.true, c.loop-place.invariant.0, c.loop-place.auto.place-end))
      c.loop-place.invariant.1,
  c.loop-place.invariant.2,
)

pub returns-clause-decided : goal.returns-clause-decided
returns-clause-decided c = λ config slices.
    empties config slices c.loop-place.self.decided.items
    (λ place within. c.loop-place.invariant.1 place
    (omega (arith, within, c.loop-place-test.false, c.loop-place.invariant.0, c.loop-place.auto.place-end)))
