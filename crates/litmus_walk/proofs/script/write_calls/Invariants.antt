use Rattle.std.proofs.Common.{drop}
use Rattle.std.specs.Fmt.{WritesInCalls}
use Rattle.litmus_walk.specs.Script.{text_of_calls}
use Rattle.litmus_walk.proofs.script.write_calls.Given as goal

-- after the remaining calls all are written
abbrev pub invariant-loop-made : goal.invariant-loop-made
invariant-loop-made g l =
    let took = g.W.Write.write_str_gives in
    (new : g.row.W.Denot) → WritesInCalls took l.out (text_of_calls (drop l.made-index l.calls)) new
    → WritesInCalls took l.fn.out (text_of_calls l.calls) new
