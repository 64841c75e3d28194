use Rattle.std.proofs.Common.{◌==◌, sym}
use Rattle.std.proofs.lemmas.Bool.{eqb-false, not-true}
use Rattle.history_judge.proofs.Rules.{ended_before}
use Rattle.history_judge.proofs.refutation.is_ended_first.Goals as goal

pub returns-then-one-other : goal.returns-then-one-other
returns-then-one-other c = λ initial yes.
    ended_before initial c.args.history.now c.args.first c.args.last c.in-Some-Some.one c.in-Some-Some.other
    (sym c.in-Some-Some.ensures.value) (sym c.in-Some-Some.ensures'.value) c.if-one-other.true
    (eqb-false c.args.first c.args.last (not-true (c.args.first == c.args.last) yes))
