use Rattle.std.proofs.Common.{ℕ}
use Rattle.std.proofs.lemmas.List.Elements.{All-push}
use Rattle.slice_log.specs.Log.{initially}
use Rattle.history_judge.specs.Before.{IsBeforeIn}
use Rattle.history_judge.proofs.Rules.{never_around}
use Rattle.history_judge.proofs.refutation.is_circle.Goals as goal

pub returns-then-pair : goal.returns-then-pair
returns-then-pair c = λ yes.
    never_around (initially c.args.initial.now) c.args.history.now c.in-Some.pair.0 c.in-Some.pair.1 c.if-pair.true
    c.in-Some.ensures

pub loop-chain-preserved : goal.loop-chain-preserved
loop-chain-preserved c =
    rw c.in_ok-push.ensures.items
    (All-push (λ (pair : ℕ × ℕ). IsBeforeIn (initially c.args.initial.now) c.args.history.now pair.0 pair.1)
    c.loop-chain.shown.items c.in-Some.pair c.loop-chain.invariant c.in-Some.ensures)
