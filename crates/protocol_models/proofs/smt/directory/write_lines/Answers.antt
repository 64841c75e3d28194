use Rattle.std.proofs.Common.{refl}
use Rattle.protocol_tables.proofs.Pieces.{next_piece}
use Rattle.protocol_models.specs.SmtDirectory.{entries_queries}
use Rattle.protocol_models.proofs.smt.directory.write_lines.Goals as goal

pub loop-entry-preserved : goal.loop-entry-preserved
loop-entry-preserved g c = λ new rest.
    let next = rw c.dir_cases.ensures at c.in_ok-write_cells.ensures in
    c.loop-entry.invariant new
    (next_piece g.W.Write.write_str_gives (λ these. entries_queries c.args.exclusive these) c.args.entries.now _ _ _
    c.loop-entry-test.true refl _ _ new next rest)
