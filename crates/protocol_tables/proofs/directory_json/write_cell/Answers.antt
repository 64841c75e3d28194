use Rattle.std.proofs.lemmas.Result.{on_ok_weaker}
use Rattle.std.proofs.Output.{writes_in_calls_append}
use Rattle.protocol_tables.proofs.directory_json.write_cell.Goals as goal

pub returns : goal.returns
returns g c =
    on_ok_weaker c.write_row.result
    (λ last. writes_in_calls_append g.W.Write.write_str_gives _ _ _ _ _ c.in_ok-write.ensures.writes last)
    c.write_row.ensures
