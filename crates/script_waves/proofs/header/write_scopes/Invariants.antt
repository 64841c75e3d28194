use Rattle.std.proofs.Common.{drop}
use Rattle.std.specs.Fmt.{WritesInCalls}
use Rattle.std.specs.List.{flat_map}
use Rattle.script_waves.specs.Signals.{text_of_scope}
use Rattle.script_waves.proofs.header.write_scopes.Given as goal

-- once the lines that are left are written, all are
abbrev pub invariant-loop-line : goal.invariant-loop-line
invariant-loop-line g l =
    let took = g.W.Write.write_str_gives in
    (new : g.row.W.Denot) → WritesInCalls took l.out (flat_map (text_of_scope l.cores) (drop l.line-index l.lines)) new
    → WritesInCalls took l.fn.out (flat_map (text_of_scope l.cores) l.lines) new
