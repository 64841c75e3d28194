use Rattle.std.proofs.lemmas.Result.{on_ok_weaker}
use Rattle.std.proofs.Output.{writes_in_calls_append}
use Rattle.litmus_threads.proofs.trace.write_log.Goals as goal

pub returns : goal.returns
returns g c =
    let then = writes_in_calls_append g.W.Write.write_str_gives in
    on_ok_weaker c.write_counters.result
    (λ last. then _ _ _ _ _ c.in_ok-write_heading.ensures (then _ _ _ _ _ (rw c.requires at c.in_ok-write_trace.ensures)
    (then _ _ _ _ _ c.in_ok-write_cores.ensures last)))
    c.write_counters.ensures
