use Rattle.script_test.proofs.JudgedLemmas.{below_more_lines}
use Rattle.script_test.proofs.judge.count_below.Goals as goal

pub loop-count-preserved : goal.loop-count-preserved
loop-count-preserved c =
    below_more_lines (λ w. (w.line, w.text.now)) c.args.wants.now c.loop-count.count _
    c.args.line c.loop-count.invariant
    c.loop-count-test.true c.if-want-line.false
