use Rattle.std.proofs.lemmas.Result.{on_ok_weaker}
use Rattle.std.proofs.Output.{writes_in_calls_append}
use Rattle.protocol_models.proofs.smt.cache.write_state.Goals as goal

pub returns : goal.returns
returns g c =
    let own = rw c.accesses.ensures at c.in_ok-write_cells.ensures in
    let sent = rw c.messages.ensures at c.write_cells-2.ensures in
    on_ok_weaker c.write_cells-2.result (λ last. writes_in_calls_append g.W.Write.write_str_gives _ _ _ _ _ own last) sent
