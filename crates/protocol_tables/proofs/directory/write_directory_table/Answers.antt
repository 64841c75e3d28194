use Rattle.std.proofs.lemmas.Result.{on_ok_weaker}
use Rattle.std.proofs.Output.{writes_in_calls_append}
use Rattle.protocol_tables.proofs.directory.write_directory_table.Goals as goal

pub returns : goal.returns
returns g c =
    let then = writes_in_calls_append g.W.Write.write_str_gives in
    let lines = rw c.samples.ensures at c.write_lines.ensures in
    on_ok_weaker c.write_lines.result
    (λ last. then _ _ _ _ _ (then _ _ _ _ _ c.in_ok-write_heading.ensures c.in_ok-write_idle.ensures) last)
    lines
