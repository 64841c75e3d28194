use Rattle.std.proofs.Common.{arith, refl, sym}
use Rattle.litmus_walk.specs.Done.{steps_of}
use Rattle.litmus_walk.proofs.DoneLemmas.{at-end-more, found}
use Rattle.litmus_walk.proofs.walker.Walker.are_at_end.Goals as goal

pub loop-number-init : goal.loop-number-init
loop-number-init c = λ number thread below is. absurd (omega (arith, below))

pub loop-number-preserved : goal.loop-number-preserved
loop-number-preserved c =
    let ends = c.is_at_end.ensures.0 c.if-not-is_at_end.false in
    at-end-more c.args.test.now.threads.items (steps_of c.args.self.now.places.items)
    c.loop-number.number c.index.result.now
    c.loop-number.invariant (rw (sym c.index.ensures) ends)

pub returns : goal.returns
returns c = (
  λ holds number thread is.
      let (there, same) = found c.args.test.now.threads.items number thread is in
      c.loop-number.invariant number thread (omega (
        arith,
        there,
        c.loop-number.auto.number-end,
        c.loop-number-test.false,
      )) is,
  λ all. refl,
)
