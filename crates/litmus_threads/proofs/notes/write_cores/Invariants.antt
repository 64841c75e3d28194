use Rattle.std.specs.Fmt.{WritesInCalls}
use Rattle.std.specs.List.{flat_map, range_with_len}
use Rattle.litmus_threads.proofs.Lines.{numbers_from}
use Rattle.litmus_threads.specs.Trace.{text_of_core}
use Rattle.litmus_threads.proofs.notes.write_cores.Given as goal

-- after the lines of the remaining cores all are written
abbrev pub invariant-loop-core : goal.invariant-loop-core
invariant-loop-core g l =
    let took = g.W.Write.write_str_gives in
    let cores = l.config.cores in
    (new : g.row.W.Denot) → WritesInCalls took l.out (flat_map (text_of_core l.log) (numbers_from l.core cores)) new
    → WritesInCalls took l.fn.out (flat_map (text_of_core l.log) (range_with_len 0 cores)) new
