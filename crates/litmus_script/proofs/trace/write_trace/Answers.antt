use Rattle.std.proofs.lemmas.Result.{on_ok_weaker}
use Rattle.std.proofs.Output.{writes_in_calls_append}
use Rattle.litmus_script.proofs.ShownLemmas.{trace_text}
use Rattle.litmus_script.proofs.trace.write_trace.Goals as goal

pub returns : goal.returns
returns g c =
    let then = writes_in_calls_append g.W.Write.write_str_gives in
    rw (trace_text c.args.config.now.cores c.args.init.now c.args.log.now)
    (on_ok_weaker c.write_entries.result
    (λ last. then _ _ _ _ _ c.in_ok-write_first.ensures (then _ _ _ _ _ c.in_ok-write_init.ensures last))
    c.write_entries.ensures)
