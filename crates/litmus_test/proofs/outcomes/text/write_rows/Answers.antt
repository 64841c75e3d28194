use Rattle.litmus_test.specs.OutcomesText.{line_of}
use Rattle.litmus_test.proofs.Cells.{next_line}
use Rattle.litmus_test.proofs.outcomes.text.write_rows.Goals as goal

pub loop-row-preserved : goal.loop-row-preserved
loop-row-preserved g c = λ new rest.
    c.loop-row.invariant new
    (next_line g.W.Write.write_str_gives (line_of c.args.test.now c.args.seed) c.args.rows.now
    c.loop-row.row-index c.row-item.result
    c.loop-row-test.true c.row-item.is _ _ new c.in_ok-write_row.ensures rest)
