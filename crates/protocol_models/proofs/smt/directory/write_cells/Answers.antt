use Rattle.std.proofs.Common.{refl}
use Rattle.protocol_tables.proofs.Pieces.{next_piece}
use Rattle.protocol_models.specs.SmtDirectory.{cells_of}
use Rattle.protocol_models.proofs.smt.directory.write_cells.Goals as goal

pub loop-case-preserved : goal.loop-case-preserved
loop-case-preserved g c = λ new rest.
    let next = rw c.directory_rule.ensures.is at c.in_ok-write_query.ensures in
    c.loop-case.invariant new
    (next_piece g.W.Write.write_str_gives (λ these. cells_of c.args.exclusive c.args.entry these) c.args.cases.now _ _ _
    c.loop-case-test.true refl _ _ new next rest)
