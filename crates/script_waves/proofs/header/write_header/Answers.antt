use Rattle.std.proofs.Output.{writes_in_calls_append}
use Rattle.std.proofs.lemmas.Result.{on_ok_weaker}
use Rattle.script_waves.proofs.header.write_header.Goals as goal

pub returns : goal.returns
returns g c =
    let then = writes_in_calls_append g.W.Write.write_str_gives in
    on_ok_weaker c.write_end.result
    (λ last. then _ _ _ _ _ c.in_ok-write_beginning.ensures
    (then _ _ _ _ _ c.in_ok-write_scopes.ensures (then _ _ _ _ _ c.in_ok-write_slices.ensures last)))
    c.write_end.ensures
