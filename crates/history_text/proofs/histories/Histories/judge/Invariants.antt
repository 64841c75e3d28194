use Rattle.std.proofs.Common.{◌≡◌, None}
use Rattle.slice_log.specs.Log.{initially}
use Rattle.history_text.specs.Histories.{accesses_at, inits_at}
use Rattle.history_text.proofs.Rows.{AreOrdered}
use Rattle.history_text.proofs.histories.Histories.judge.Given as goal

abbrev pub invariant-loop-number : goal.invariant-loop-number
invariant-loop-number l =
    l.undecided ≡ None
    → AreOrdered (λ r. initially (inits_at l.self r)) (accesses_at l.self) l.orders.items l.number
