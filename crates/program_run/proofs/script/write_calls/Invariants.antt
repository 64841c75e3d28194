use Rattle.std.proofs.Common.{drop}
use Rattle.std.specs.Fmt.{WritesInCalls}
use Rattle.program_run.specs.Calls.{text_of_calls}
use Rattle.program_run.proofs.script.write_calls.Given as goal

-- once the calls that are left are written, all are
abbrev pub invariant-loop-call : goal.invariant-loop-call
invariant-loop-call g l =
    let took = g.W.Write.write_str_gives in
    (new : g.row.W.Denot) → WritesInCalls took l.out (text_of_calls (drop l.call-index l.calls)) new
    → WritesInCalls took l.fn.out (text_of_calls l.calls) new
