use Rattle.std.proofs.Common.{refl}
use Rattle.protocol_tables.proofs.Pieces.{next_piece}
use Rattle.protocol_models.specs.SmtCache.{states_queries}
use Rattle.protocol_models.proofs.smt.cache.write_states.Goals as goal

pub loop-state-preserved : goal.loop-state-preserved
loop-state-preserved g c = λ new rest.
    c.loop-state.invariant new
    (next_piece g.W.Write.write_str_gives (λ these. states_queries c.args.exclusive these) c.args.states.now _ _ _
    c.loop-state-test.true refl _ _ new c.in_ok-write_state.ensures rest)
