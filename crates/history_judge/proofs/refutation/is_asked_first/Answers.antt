use Rattle.std.proofs.Common.{ltb-true, sym}
use Rattle.history_judge.proofs.Rules.{asked_before}
use Rattle.history_judge.proofs.refutation.is_asked_first.Goals as goal

pub returns-then-one-other : goal.returns-then-one-other
returns-then-one-other c = λ initial yes.
    asked_before initial c.args.history.now c.args.first c.args.last c.in-Some-Some.one c.in-Some-Some.other
    (sym c.in-Some-Some.ensures.value) (sym c.in-Some-Some.ensures'.value) c.if-one-other.true
    (ltb-true c.args.first c.args.last yes)
