use Rattle.std.proofs.Common.{arith, ◌∙◌}
use Rattle.program_text.proofs.BodyLemmas.{again_more, again_none, again_within}
use Rattle.program_text.proofs.repeat.push_again.Goals as goal

pub loop-place-init : goal.loop-place-init
loop-place-init c = again_none c.args.steps.now.items c.args.start

pub index-step-requires : goal.index-step-requires
index-step-requires c =
    omega (
      arith,
      again_within c.args.steps.now.items c.loop-place.steps.items c.args.start c.loop-place.place
          c.loop-place.invariant (omega (arith, c.requires.within, c.args.steps.now.ok.0)),
      c.loop-place.steps.ok.0,
    )

pub loop-place-preserved : goal.loop-place-preserved
loop-place-preserved c =
    c.in_ok-push.ensures.items
    ∙ again_more c.args.steps.now.items c.loop-place.steps.items c.args.start c.loop-place.place _
    (omega arith) (omega (arith, c.requires.within, c.args.steps.now.ok.0)) c.loop-place.invariant
    c.index-step.ensures
