use Rattle.std.proofs.Common.{[]}
use Rattle.std.proofs.KnownBytes.{Appends-nil, Appends-trans}
use Rattle.murphi_trace.specs.Replay.{rules_with}
use Rattle.murphi_trace.specs.Script.{step_by}
use Rattle.murphi_trace.proofs.StepLemmas.{text_more}
use Rattle.murphi_trace.proofs.TagLemmas.{tags_none}
use Rattle.murphi_trace.proofs.replay.write_steps.Goals as goal

pub loop-line-init : goal.loop-line-init
loop-line-init g c = record {
  before = [];
  tags = tags_none;
  rest = rw (c.into_iter-line-iterator.ensures.into_iter_gives, c.of-line-items.ensures.value) (λ after rest. rest);
}

pub loop-line-preserved : goal.loop-line-preserved
loop-line-preserved g c = record {
  before = rules_with c.loop-line.invariant.before (step_by c.in-Some.line.now);
  tags = c.in_ok-write_line.ensures.tags c.loop-line.invariant.before c.loop-line.invariant.tags;
  rest = λ after rest.
      let steps = c.in-Some.ensures.steps in
      c.loop-line.invariant.rest after (rw (
        steps,
        text_more c.loop-line.invariant.before
            (step_by c.in-Some.line.now) _,
      )
      (Appends-trans _ _ _ _ _
      (c.in_ok-write_line.ensures.text c.loop-line.invariant.before c.loop-line.invariant.tags) rest));
}

pub returns : goal.returns
returns g c = c.loop-line.invariant.rest _ (rw c.in-None.ensures.steps.0 (Appends-nil _))
