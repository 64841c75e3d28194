use Rattle.std.proofs.lemmas.Result.{on_ok_weaker}
use Rattle.std.proofs.Output.{writes_in_calls_append}
use Rattle.script_page.proofs.step.write_lines_of.Goals as goal

pub returns : goal.returns
returns g c =
    let then = writes_in_calls_append g.W.Write.write_str_gives in
    let victim = rw c.victim_of-victim.ensures at c.in_ok-write_line_in-2.ensures in
    let log = rw (c.first_of-first.ensures, c.log.ensures.log, c.log-2.ensures.log) at
    c.in_ok-write_log.ensures in
    on_ok_weaker c.write_next.result
    (λ last. then _ _ _ _ _ c.in_ok-write.ensures.writes
    (then _ _ _ _ _ c.in_ok-write_line_in.ensures
    (then _ _ _ _ _ c.in_ok-write-2.ensures.writes
    (then _ _ _ _ _ victim
    (then _ _ _ _ _ c.in_ok-write-3.ensures.writes
    (then _ _ _ _ _ log (rw c.next.ensures.next at last)))))))
    c.write_next.ensures
