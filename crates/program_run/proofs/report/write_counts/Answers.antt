use Rattle.std.proofs.Common.{List, refl}
use Rattle.litmus_text.proofs.Pieces.{next_piece}
use Rattle.program_run.specs.declared.column.Column.{Column}
use Rattle.program_run.specs.Report.{counts_of}
use Rattle.program_run.proofs.report.write_counts.Goals as goal

pub loop-column-preserved : goal.loop-column-preserved
loop-column-preserved g c = λ new rest.
    let next = rw c.count.ensures at c.in_ok-write_number.ensures in
    c.loop-column.invariant new
    (next_piece g.W.Write.write_str_gives (λ (columns : List Column). counts_of columns c.args.counts.now)
    c.args.columns.now _ _ _
    c.loop-column-test.true refl _ _ new next rest)
