use Rattle.std.proofs.Common.{nat_eq}
use Rattle.std.specs.HashMap.{get}
use Rattle.slice_log.specs.Log.{initially}
use Rattle.history_judge.proofs.Checks.{IsExplained}
use Rattle.history_judge.proofs.order.explains_replies.Given as goal

abbrev pub invariant-loop-place : goal.invariant-loop-place
invariant-loop-place l =
    IsExplained (initially l.fn.initial) l.history l.order l.place-index (get nat_eq l.values)
