use Rattle.std.proofs.lemmas.Result.{on_ok_weaker}
use Rattle.std.proofs.Output.{writes_in_calls_append}
use Rattle.script_page.proofs.step.write_front.Goals as goal

pub returns : goal.returns
returns g c =
    let then = writes_in_calls_append g.W.Write.write_str_gives in
    let call = rw (c.command.ensures, c.planned_of.ensures) at c.in_ok-write_call.ensures in
    on_ok_weaker c.write_changes.result
    (λ last. then _ _ _ _ _ c.in_ok-write_place.ensures
    (then _ _ _ _ _ c.in_ok-write_json.ensures
    (then _ _ _ _ _ c.in_ok-write.ensures.writes
    (then _ _ _ _ _ c.in_ok-write_json-2.ensures (then _ _ _ _ _ call last)))))
    c.write_changes.ensures
