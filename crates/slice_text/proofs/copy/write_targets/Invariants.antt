use Rattle.std.proofs.Common.{drop}
use Rattle.std.specs.Fmt.{WritesInCalls}
use Rattle.slice_text.specs.Shown.{text_of_targets}
use Rattle.slice_text.proofs.copy.write_targets.Given as goal

-- after the remaining ones all are written
abbrev pub invariant-loop-target : goal.invariant-loop-target
invariant-loop-target g l =
    let took = g.W.Write.write_str_gives in
    (new : g.row.W.Denot) → WritesInCalls took l.out (text_of_targets l.core l.line (drop l.target-index l.targets)) new
    → WritesInCalls took l.fn.out (text_of_targets l.core l.line l.targets) new
