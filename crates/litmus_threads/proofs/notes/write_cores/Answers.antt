use Rattle.std.proofs.Common.{◌+◌}
use Rattle.std.specs.List.{flat_map}
use Rattle.std.proofs.Output.{writes_in_calls_append, writes_in_calls_nil}
use Rattle.litmus_threads.proofs.Lines.{last_number, next_number, numbers_from}
use Rattle.litmus_threads.specs.Trace.{text_of_core}
use Rattle.litmus_threads.proofs.notes.write_cores.Goals as goal

pub loop-core-preserved : goal.loop-core-preserved
loop-core-preserved g c = λ new rest.
    let took = g.W.Write.write_str_gives in
    let i = c.loop-core.core in
    let cores = c.args.config.now.cores in
    let text_of = text_of_core c.args.log.now in
    c.loop-core.invariant new
    (rw (next_number text_of i cores (rw c.cores-core-end.ensures.cores at c.loop-core-test.true))
    (writes_in_calls_append took _ (text_of i) _
    (flat_map text_of (numbers_from (i + 1) cores)) new c.in_ok-write_core.ensures rest))

pub returns : goal.returns
returns g c =
    let took = g.W.Write.write_str_gives in
    let i = c.loop-core.core in
    let cores = c.args.config.now.cores in
    let text_of = text_of_core c.args.log.now in
    c.loop-core.invariant c.loop-core.out
    (rw (last_number text_of i cores (rw c.cores-core-end.ensures.cores at c.loop-core-test.false))
    (writes_in_calls_nil took c.loop-core.out))
