use Rattle.std.proofs.KnownBytes.{Appends-nil}
use Rattle.script_json.specs.Text.{value_of}
use Rattle.script_json.proofs.Items.{item_written}
use Rattle.script_json.proofs.text.write_each.Goals as goal

pub loop-word-init : goal.loop-word-init
loop-word-init g c = rw c.into_iter-word-iterator.ensures.into_iter_gives (λ after rest. rest)

pub loop-word-preserved : goal.loop-word-preserved
loop-word-preserved g c = λ after rest.
    let steps = c.in-Some.ensures.steps in
    c.loop-word.invariant after
    (rw steps (item_written value_of c.loop-word.is_first c.in-Some.word.now c.next.new.self _ _ _ after c.in_ok-write_before.ensures
    c.in_ok-write_value.ensures rest))

pub returns : goal.returns
returns g c = c.loop-word.invariant _ (rw c.in-None.ensures.steps.0 (Appends-nil _))
