use Rattle.std.proofs.Common.{drop, length}
use Rattle.std.specs.Fmt.{WritesInCalls}
use Rattle.std.specs.List.{range_with_len}
use Rattle.litmus_text.specs.JsonList.{with_commas_from}
use Rattle.program_run.specs.Json.{core_objects_of, objects_of_cores}
use Rattle.program_run.proofs.json.write_cores.Given as goal

-- once the objects that are left are written, all are
abbrev pub invariant-loop-core : goal.invariant-loop-core
invariant-loop-core g l =
    let took = g.W.Write.write_str_gives in
    (new : g.row.W.Denot)
    → WritesInCalls took l.out (with_commas_from l.is_first (objects_of_cores l.is_limited l.cores l.usages
    (drop l.core (range_with_len 0 (length l.cores))))) new
    → WritesInCalls took l.fn.out (core_objects_of l.is_limited l.cores l.usages) new
