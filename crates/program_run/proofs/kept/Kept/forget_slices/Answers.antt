use Rattle.std.proofs.Common.{◌∙◌, arith, length-set}
use Rattle.program_run.proofs.KeptLemmas.{idle-none, no-counts, zero_more}
use Rattle.program_run.proofs.kept.Kept.forget_slices.Goals as goal

pub loop-slice-preserved : goal.loop-slice-preserved
loop-slice-preserved c = (
  length-set _ c.loop-slice.slice 0 ∙ c.loop-slice.invariant.0,
  zero_more c.loop-slice.self.idle.items c.loop-slice.slice
      (omega (arith, c.loop-slice-test.true, c.loop-slice.invariant.0, c.loop-slice.auto.slice-end))
      c.loop-slice.invariant.1,
  c.loop-slice.invariant.2,
)

pub returns-clause-idle : goal.returns-clause-idle
returns-clause-idle c = λ slices.
    idle-none slices c.loop-slice.self.idle.items
    (no-counts c.loop-slice.self.idle.items c.loop-slice.slice
    (omega (arith, c.loop-slice-test.false, c.loop-slice.invariant.0, c.loop-slice.auto.slice-end))
    c.loop-slice.invariant.1)
