use Rattle.std.proofs.KnownBytes.{Appends-nil}
use Rattle.script_waves.proofs.ChangesLemmas.{change_written}
use Rattle.script_waves.proofs.changes.write_each.Goals as goal

pub loop-value-init : goal.loop-value-init
loop-value-init g c = rw c.into_iter-value-iterator.ensures.into_iter_gives (λ after rest. rest)

pub loop-value-preserved : goal.loop-value-preserved
loop-value-preserved g c = λ after rest.
    let steps = c.in-Some.ensures.steps in
    let line = c.next_line-before.ensures in
    c.loop-value.invariant after
    (rw steps (change_written c.loop-value.told _ _ c.in-Some.value.now c.next.new.self _ _ after line.first line.rest
    c.in_ok-write_change.ensures rest))

pub returns : goal.returns
returns g c = c.loop-value.invariant _ (rw c.in-None.ensures.steps.0 (Appends-nil _))
