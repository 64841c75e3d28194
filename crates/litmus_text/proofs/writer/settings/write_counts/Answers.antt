use Rattle.std.proofs.lemmas.Result.{on_ok_weaker}
use Rattle.std.proofs.Output.{writes_in_calls_append, writes_in_calls_nil}
use Rattle.litmus_text.proofs.writer.settings.write_counts.Goals as goal

pub returns : goal.returns
returns g c =
    let took = g.W.Write.write_str_gives in
    let then = writes_in_calls_append took in
    let cores = rw c.cores.ensures.cores at c.in_ok-write_count.ensures in
    let slices = rw c.slices.ensures.slices at c.in_ok-write_count-2.ensures in
    let lines = rw c.lines.ensures.lines at c.in_ok-write_count-3.ensures in
    let sets = rw c.sets.ensures.sets at c.in_ok-write_count-4.ensures in
    let ways = rw c.ways.ensures.ways at c.in_ok-write_count-5.ensures in
    let mshrs = rw c.mshrs.ensures.mshrs at c.in_ok-write_count-6.ensures in
    let targets = rw c.targets.ensures.targets at c.in_ok-write_count-7.ensures in
    let writebacks = rw c.writebacks.ensures.writebacks at c.write_count-8.ensures in
    on_ok_weaker c.write_count-8.result
    (λ last. then _ _ _ _ _ cores (then _ _ _ _ _ slices
    (then _ _ _ _ _ lines (then _ _ _ _ _ sets (then _ _ _ _ _ ways
    (then _ _ _ _ _ mshrs (then _ _ _ _ _ targets (then _ _ _ _ _ last (writes_in_calls_nil took _)))))))))
    writebacks
