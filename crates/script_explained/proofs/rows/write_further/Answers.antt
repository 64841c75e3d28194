use Rattle.std.proofs.KnownBytes.{Appends-nil, Appends-trans}
use Rattle.script_explained.proofs.rows.write_further.Goals as goal

pub loop-line-init : goal.loop-line-init
loop-line-init g c = rw c.into_iter-line-iterator.ensures.into_iter_gives (λ after rest. rest)

pub loop-line-preserved : goal.loop-line-preserved
loop-line-preserved g c = λ after rest.
    let steps = c.in-Some.ensures.steps in
    c.loop-line.invariant after (rw steps (Appends-trans _ _ _ _ _ c.in_ok-write_row.ensures rest))

pub returns : goal.returns
returns g c = c.loop-line.invariant _ (rw c.in-None.ensures.steps.0 (Appends-nil _))
