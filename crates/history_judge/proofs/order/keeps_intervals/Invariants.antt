use Rattle.history_judge.proofs.Checks.{IsKept}
use Rattle.history_judge.proofs.order.keeps_intervals.Given as goal

abbrev pub invariant-loop-place : goal.invariant-loop-place
invariant-loop-place l = IsKept l.history l.order l.place-index l.latest
