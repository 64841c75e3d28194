use Rattle.std.proofs.Common.{refl}
use Rattle.litmus_text.proofs.Pieces.{next_piece}
use Rattle.program_run.specs.Report.{names_of}
use Rattle.program_run.proofs.report.write_names.Goals as goal

pub loop-column-preserved : goal.loop-column-preserved
loop-column-preserved g c = λ new rest.
    c.loop-column.invariant new
    (next_piece g.W.Write.write_str_gives names_of c.args.columns.now _ _ _
    c.loop-column-test.true refl _ _ new c.in_ok-write_name.ensures rest)
