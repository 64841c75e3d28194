use Rattle.std.proofs.lemmas.Result.{on_ok_weaker}
use Rattle.std.proofs.Output.{writes_in_calls_append}
use Rattle.script_page.proofs.core_part.write_with.Goals as goal

pub returns : goal.returns
returns g c =
    let then = writes_in_calls_append g.W.Write.write_str_gives in
    on_ok_weaker c.write-6.result
    (λ last. then _ _ _ _ _ c.in_ok-write_begin.ensures
    (then _ _ _ _ _ c.in_ok-write_copy_in.ensures
    (then _ _ _ _ _ c.in_ok-write.ensures.writes
    (then _ _ _ _ _ c.in_ok-write_copy_in-2.ensures
    (then _ _ _ _ _ c.in_ok-write-2.ensures.writes
    (then _ _ _ _ _ c.in_ok-write_lines.ensures
    (then _ _ _ _ _ c.in_ok-write-3.ensures.writes
    (then _ _ _ _ _ c.in_ok-write_lines-2.ensures
    (then _ _ _ _ _ c.in_ok-write-4.ensures.writes
    (then _ _ _ _ _ c.in_ok-write_lines-3.ensures
    (then _ _ _ _ _ c.in_ok-write-5.ensures.writes
    (then _ _ _ _ _ c.in_ok-write_replies.ensures last))))))))))))
    c.write-6.ensures.writes
