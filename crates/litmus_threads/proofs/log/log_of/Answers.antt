use Rattle.std.proofs.Common.{arith, ◌∙◌}
use Rattle.std.proofs.lemmas.List.{take_all}
use Rattle.litmus_threads.proofs.Logs.{fewer, log-more, log-whole}
use Rattle.litmus_threads.proofs.log.log_of.Goals as goal

pub loop-number-preserved : goal.loop-number-preserved
loop-number-preserved c = λ whole are.
    log-more _ _ _ whole _ _ _ are c.in-Some.ensures.0 c.in-Some.ensures.1 (c.loop-number.invariant whole are)
    c.in_ok-push-in-Some.ensures.items

pub returns-in-None : goal.returns-in-None
returns-in-None c = λ whole are.
    log-whole _ _ whole _ _ are c.in-None.ensures (c.loop-number.invariant whole are)

pub returns : goal.returns
returns c = λ whole are.
    let few = fewer _ _ whole are in
    let end = c.loop-number-test.false in
    c.loop-number.invariant whole are ∙ take_all _ whole (omega (arith, few, end))
