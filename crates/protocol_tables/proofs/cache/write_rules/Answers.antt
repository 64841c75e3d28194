use Rattle.std.proofs.Common.{refl}
use Rattle.protocol_tables.proofs.Pieces.{next_same}
use Rattle.protocol_tables.specs.Cache.{columns_of, rules_of}
use Rattle.protocol_tables.proofs.cache.write_rules.Goals as goal

pub loop-preserved : goal.loop-preserved
loop-preserved g c = λ new rest.
    c.loop.invariant new
    (next_same g.W.Write.write_str_gives (λ columns. rules_of (columns_of columns)) c.args.columns.now _ _
    c.loop-test.true (λ column columns. refl) _ _ new c.in_ok-write.ensures.writes rest)
