use Rattle.std.proofs.Common.{drop, length}
use Rattle.std.specs.Fmt.{WritesInCalls}
use Rattle.std.specs.List.{range_with_len}
use Rattle.litmus_text.specs.JsonList.{with_commas_from}
use Rattle.program_run.specs.Json.{line_objects_of, objects_of_lines}
use Rattle.program_run.proofs.json.write_lines.Given as goal

-- once the objects that are left are written, all are
abbrev pub invariant-loop-line : goal.invariant-loop-line
invariant-loop-line g l =
    let took = g.W.Write.write_str_gives in
    (new : g.row.W.Denot)
    → WritesInCalls took l.out (with_commas_from l.is_first (objects_of_lines l.lines
    (drop l.line (range_with_len 0 (length l.lines))))) new
    → WritesInCalls took l.fn.out (line_objects_of l.lines) new
