use Rattle.std.proofs.Common.{drop}
use Rattle.std.specs.Fmt.{WritesInCalls}
use Rattle.protocol_tables.specs.Cache.{all_states, columns_of, lines_of}
use Rattle.protocol_tables.proofs.cache.write_lines.Given as goal

-- who writes the lines that are left has written all
abbrev pub invariant-loop-state : goal.invariant-loop-state
invariant-loop-state g l =
    let took = g.W.Write.write_str_gives in
    (new : g.row.W.Denot)
    → WritesInCalls took l.out (lines_of l.exclusive (columns_of l.columns) (drop l.state-index l.state-items)) new
    → WritesInCalls took l.fn.out (lines_of l.exclusive (columns_of l.columns) all_states) new
