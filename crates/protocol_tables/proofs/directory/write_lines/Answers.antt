use Rattle.std.proofs.Common.{refl}
use Rattle.protocol_tables.proofs.Pieces.{next_item}
use Rattle.protocol_tables.specs.Directory.{lines_of}
use Rattle.protocol_tables.proofs.directory.write_lines.Goals as goal

pub loop-holders-preserved : goal.loop-holders-preserved
loop-holders-preserved g c = λ new rest.
    c.loop-holders.invariant new
    (next_item g.W.Write.write_str_gives (λ these. lines_of c.args.exclusive these) c.args.all.now
    c.loop-holders.holders-index
    c.holders-item.result _ c.holders-item.is c.loop-holders-test.true refl _ _ new c.in_ok-write_line.ensures rest)
