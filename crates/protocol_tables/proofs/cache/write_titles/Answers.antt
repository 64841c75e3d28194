use Rattle.std.proofs.Common.{refl}
use Rattle.protocol_tables.proofs.Pieces.{next_piece}
use Rattle.protocol_tables.specs.Cache.{columns_of, titles_of}
use Rattle.protocol_tables.proofs.cache.write_titles.Goals as goal

pub loop-title-preserved : goal.loop-title-preserved
loop-title-preserved g c = λ new rest.
    c.loop-title.invariant new
    (next_piece g.W.Write.write_str_gives (λ columns. titles_of (columns_of columns)) c.args.columns.now _ _ _
    c.loop-title-test.true refl _ _ new c.in_ok-write.ensures.writes rest)
