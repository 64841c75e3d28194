use Rattle.std.proofs.lemmas.Result.{on_ok_weaker}
use Rattle.std.proofs.Output.{writes_in_calls_append}
use Rattle.script_json.proofs.look.write_all.Goals as goal

pub returns : goal.returns
returns g c =
    let slices = rw c.as_slice.ensures.value at c.in_ok-write_slices.ensures in
    on_ok_weaker c.write_lines.result
    (λ last. writes_in_calls_append g.W.Write.write_str_gives _ _ _ _ _ slices last) c.write_lines.ensures
