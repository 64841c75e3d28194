use Rattle.std.proofs.Common.{drop}
use Rattle.std.specs.Fmt.{WritesInCalls}
use Rattle.protocol_models.specs.SmtCache.{states_queries}
use Rattle.protocol_models.proofs.smt.cache.write_states.Given as goal

-- writing the queries of the states that are left completes the text
abbrev pub invariant-loop-state : goal.invariant-loop-state
invariant-loop-state g l =
    let took = g.W.Write.write_str_gives in
    (new : g.row.W.Denot)
    → WritesInCalls took l.out (states_queries l.exclusive (drop l.state-index l.states)) new
    → WritesInCalls took l.fn.out (states_queries l.exclusive l.states) new
