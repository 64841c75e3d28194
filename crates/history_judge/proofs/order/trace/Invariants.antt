use Rattle.std.proofs.Common.{◌≡◌, take, map}
use Rattle.history_judge.specs.Order.{entry_at}
use Rattle.history_judge.proofs.order.trace.Given as goal

abbrev pub invariant-loop-place : goal.invariant-loop-place
invariant-loop-place l = l.entries.items ≡ map (entry_at l.history) (take l.place-index l.order)
