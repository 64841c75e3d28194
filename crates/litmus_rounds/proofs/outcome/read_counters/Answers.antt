use Rattle.std.proofs.Common.{sym}
use Rattle.litmus_rounds.specs.Outcome.{HasWord}
use Rattle.litmus_rounds.proofs.MatchLemmas.{adds_next, adds_none, match_at, no_word}
use Rattle.litmus_rounds.proofs.outcome.read_counters.Goals as goal

pub loop-counter-init : goal.loop-counter-init
loop-counter-init c = adds_none _ _

pub loop-counter-preserved : goal.loop-counter-preserved
loop-counter-preserved c =
    let word = rw c.requires at c.in-Some.ensures.quiet in
    rw c.in_ok-push.ensures.items
    (adds_next (HasWord c.args.test.now.config c.args.recorded.now.slices) c.counters-counter-items.result.now
    c.loop-counter.counter-index _ _ _ c.in-Some.value c.loop-counter.invariant word c.loop-counter-test.true)

pub returns-in_default-clause-none : goal.returns-in_default-clause-none
returns-in_default-clause-none c = λ is values all.
    let (value, has) = match_at (HasWord c.args.test.now.config c.args.recorded.now.slices)
    c.counters-counter-items.result.now values c.loop-counter.counter-index _ c.loop-counter-test.true
    (rw (sym c.counters-counter-items.ensures.value) at all) in
    no_word c.args.test.now.config c.args.recorded.now.slices _ value (rw c.requires at c.in_default.ensures.shown) has
