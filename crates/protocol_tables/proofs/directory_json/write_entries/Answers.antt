use Rattle.std.proofs.Common.{refl}
use Rattle.protocol_tables.proofs.Pieces.{next_piece}
use Rattle.protocol_tables.specs.DirectoryJson.{entry_lines}
use Rattle.protocol_tables.proofs.directory_json.write_entries.Goals as goal

pub loop-entry-preserved : goal.loop-entry-preserved
loop-entry-preserved g c = λ new rest.
    let next = rw c.dir_cases.ensures at c.in_ok-write_cells.ensures in
    c.loop-entry.invariant new
    (next_piece g.W.Write.write_str_gives (λ these. entry_lines c.args.exclusive these) c.args.entries.now _ _ _
    c.loop-entry-test.true refl _ _ new next rest)
