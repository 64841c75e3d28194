use Rattle.std.proofs.Common.{append_assoc, codes, sym}
use Rattle.std.proofs.lemmas.Result.{on_ok_weaker}
use Rattle.std.proofs.Output.{writes_in_calls_append}
use Rattle.cache_table.specs.Name.{name_of}
use Rattle.protocol_tables.specs.Cache.{setting_of}
use Rattle.protocol_tables.proofs.cache.write_shown.Goals as goal

pub returns : goal.returns
returns g c =
    let then = writes_in_calls_append g.W.Write.write_str_gives in
    let state = c.args.state in
    let grouped = sym (append_assoc (name_of state) (setting_of state) (codes " |")) in
    let first = rw (c.setting_of.ensures, grouped) at c.in_ok-write.ensures.writes in
    on_ok_weaker c.writeln.result (λ last. then _ _ _ _ _ (then _ _ _ _ _ first c.in_ok-write_cells.ensures) last)
    c.writeln.ensures.writes
