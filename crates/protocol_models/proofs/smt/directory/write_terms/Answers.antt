use Rattle.std.proofs.Common.{refl}
use Rattle.protocol_tables.proofs.Pieces.{next_piece}
use Rattle.protocol_models.specs.SmtDirectory.{entries_terms}
use Rattle.protocol_models.proofs.smt.directory.write_terms.Goals as goal

pub loop-entry-preserved : goal.loop-entry-preserved
loop-entry-preserved g c = λ new rest.
    c.loop-entry.invariant new
    (next_piece g.W.Write.write_str_gives entries_terms c.args.entries.now _ _ _
    c.loop-entry-test.true refl _ _ new c.in_ok-write.ensures.writes rest)
