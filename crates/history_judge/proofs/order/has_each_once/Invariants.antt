use Rattle.history_judge.proofs.Marks.{AreMarks}
use Rattle.history_judge.proofs.order.has_each_once.Given as goal

abbrev pub invariant-loop-place : goal.invariant-loop-place
invariant-loop-place l = AreMarks l.fn.count l.order l.places.items l.place
