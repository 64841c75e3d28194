use Rattle.script_test.proofs.JudgedLemmas.{first_here, first_more, first_short}
use Rattle.script_test.proofs.judge.first_difference.Goals as goal

pub loop-want-preserved : goal.loop-want-preserved
loop-want-preserved c = λ unlike rest.
    let same = rw c.in_default.is at c.unlike_word.ensures in
    c.loop-want.invariant unlike
    (rw c.in-Some.ensures.steps
    (first_more (λ w. (w.line, w.text.now)) c.args.wants.now c.loop-want.want-index _ c.args.line _ _
    unlike c.loop-want-test.true same rest))

pub returns-in-Some-unlike_word : goal.returns-in-Some-unlike_word
returns-in-Some-unlike_word c =
    c.loop-want.invariant _
    (rw c.in-Some.ensures.steps
    (first_here (λ w. (w.line, w.text.now)) c.args.wants.now c.loop-want.want-index _ c.args.line
    _ _ _ c.loop-want-test.true c.in-Some-unlike_word.ensures))

pub returns-in-None : goal.returns-in-None
returns-in-None c =
    c.loop-want.invariant _
    (rw c.in-None.ensures.steps.0
    (first_short (λ w. (w.line, w.text.now)) c.args.wants.now c.loop-want.want-index _
    c.args.line c.loop-want-test.true))
