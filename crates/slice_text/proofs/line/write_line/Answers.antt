use Rattle.std.proofs.lemmas.Result.{on_ok_weaker}
use Rattle.std.proofs.Output.{writes_in_calls_append}
use Rattle.slice_text.proofs.line.write_line.Goals as goal

pub returns : goal.returns
returns g c =
    let then = writes_in_calls_append g.W.Write.write_str_gives in
    on_ok_weaker c.writeln.result
    (λ last. then _ _ _ _ _ c.in_ok-write_entry.ensures (then _ _ _ _ _ c.in_ok-write_owner.ensures
    (then _ _ _ _ _ (rw c.from_bits.ensures at c.in_ok-write.ensures.writes)
    (then _ _ _ _ _ c.in_ok-write_home.ensures (then _ _ _ _ _
    (rw c.as_slice.ensures.value at c.in_ok-write_copies.ensures) last)))))
    c.writeln.ensures.writes
