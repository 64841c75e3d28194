use Rattle.std.proofs.Common.{drop}
use Rattle.std.specs.Fmt.{WritesInCalls}
use Rattle.protocol_tables.specs.CacheJson.{state_lines}
use Rattle.protocol_tables.proofs.cache_json.write_states.Given as goal

-- who writes the values of the states that are left has written all
abbrev pub invariant-loop-state : goal.invariant-loop-state
invariant-loop-state g l =
    let took = g.W.Write.write_str_gives in
    (new : g.row.W.Denot)
    → WritesInCalls took l.out (state_lines l.exclusive (drop l.state-index l.states)) new
    → WritesInCalls took l.fn.out (state_lines l.exclusive l.states) new
