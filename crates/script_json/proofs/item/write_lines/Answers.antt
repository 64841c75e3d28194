use Rattle.std.proofs.KnownBytes.{Appends-nil}
use Rattle.script_json.specs.Value.{item_of_line}
use Rattle.script_json.proofs.Items.{item_written}
use Rattle.script_json.proofs.item.write_lines.Goals as goal

pub loop-line-init : goal.loop-line-init
loop-line-init g c = rw c.into_iter-line-iterator.ensures.into_iter_gives (λ after rest. rest)

pub loop-line-preserved : goal.loop-line-preserved
loop-line-preserved g c = λ after rest.
    let steps = c.in-Some.ensures.steps in
    c.loop-line.invariant after
    (rw steps (item_written item_of_line c.loop-line.is_first c.in-Some.line.now c.next.new.self _ _ _ after
    c.in_ok-write_before.ensures c.in_ok-write_line.ensures rest))

pub returns : goal.returns
returns g c = c.loop-line.invariant _ (rw c.in-None.ensures.steps.0 (Appends-nil _))
