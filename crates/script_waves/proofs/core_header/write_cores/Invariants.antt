use Rattle.std.proofs.Common.{drop}
use Rattle.std.specs.Fmt.{WritesInCalls}
use Rattle.std.specs.List.{flat_map, range_with_len}
use Rattle.script_waves.specs.Signals.{text_of_core}
use Rattle.script_waves.proofs.core_header.write_cores.Given as goal

-- once those that are left are written, all are
abbrev pub invariant-loop-core : goal.invariant-loop-core
invariant-loop-core g l =
    let took = g.W.Write.write_str_gives in
    (new : g.row.W.Denot)
    → WritesInCalls took l.out (flat_map (text_of_core l.slice) (drop l.core (range_with_len 0 l.cores))) new
    → WritesInCalls took l.fn.out (flat_map (text_of_core l.slice) (range_with_len 0 l.cores)) new
