use Rattle.std.proofs.lemmas.Result.{on_ok_weaker}
use Rattle.std.proofs.Output.{writes_in_calls_append}
use Rattle.slice_json.proofs.message.write_message.Goals as goal

pub returns : goal.returns
returns g c =
    let then = writes_in_calls_append g.W.Write.write_str_gives in
    let block = rw c.block_in-block.ensures at c.in_ok-write_block.ensures in
    on_ok_weaker c.write_end.result
    (λ last. then _ _ _ _ _ c.in_ok-write_begin.ensures (then _ _ _ _ _ block last))
    c.write_end.ensures
