use Rattle.std.proofs.Common.{sym, ◌∙◌}
use Rattle.std.proofs.lemmas.Result.{on_ok_weaker}
use Rattle.std.proofs.Output.{writes_in_calls_append}
use Rattle.slice_json.proofs.copy.write_copy.Goals as goal

pub returns : goal.returns
returns g c =
    let took = g.W.Write.write_str_gives in
    let then = writes_in_calls_append took in
    let block = rw c.block_of.ensures at c.in_ok-write_block.ensures in
    let targets = rw (c.as_slice.ensures.value, c.targets.ensures) at c.in_ok-write_targets.ensures in
    on_ok_weaker c.write-3.result
    (λ last. rw (sym c.copy.ensures ∙ c.in-Some.is)
    (then _ _ _ _ _ c.in_ok-write_head.ensures
    (then _ _ _ _ _ c.in_ok-write_needed.ensures
    (then _ _ _ _ _ block (then _ _ _ _ _ c.in_ok-write.ensures.writes (then _ _ _ _ _ targets last))))))
    c.write-3.ensures.writes
