use Rattle.std.proofs.lemmas.Result.{on_ok_weaker}
use Rattle.std.proofs.Output.{writes_in_calls_append}
use Rattle.slice_text.proofs.shown.write_slice.Goals as goal

pub returns : goal.returns
returns g c =
    let then = writes_in_calls_append g.W.Write.write_str_gives in
    on_ok_weaker c.writeln.result
    (λ last. then _ _ _ _ _ c.in_ok-write_lines.ensures (then _ _ _ _ _ c.in_ok-write_replies.ensures
    (then _ _ _ _ _ c.in_ok-write_number.ensures (then _ _ _ _ _ c.in_ok-write_ring.ensures last))))
    c.writeln.ensures.writes
