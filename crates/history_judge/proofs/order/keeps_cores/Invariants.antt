use Rattle.history_judge.proofs.Checks.{IsBounded}
use Rattle.history_judge.proofs.order.keeps_cores.Given as goal

abbrev pub invariant-loop-place : goal.invariant-loop-place
invariant-loop-place l = IsBounded l.history l.order l.place-index l.bounds.items
