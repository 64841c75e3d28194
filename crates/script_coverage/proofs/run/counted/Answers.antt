use Rattle.std.proofs.lemmas.Result.{IfOk-weaker}
use Rattle.script_coverage.proofs.run.counted.Goals as goal

pub returns-clause-counted : goal.returns-clause-counted
returns-clause-counted c =
    IfOk-weaker c.counts_of.result _ _
    (λ counts is.
    record {
      numbers = c.in_ok-trail.trail.items;
      played = c.in_ok-trail.ensures.played;
      counted = rw (c.exclusive-exclusive.ensures.exclusive, c.as_slice.ensures.value) at is;
    })
    c.counts_of.ensures.counted
