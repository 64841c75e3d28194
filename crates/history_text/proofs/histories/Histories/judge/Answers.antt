use Rattle.std.proofs.Common.{ap, sym, ◌∙◌, ◌≡◌, ◌≤◌, Some, None, arith, length}
use Rattle.slice_log.specs.Log.{initially}
use Rattle.history_text.specs.Histories.{inits_at}
use Rattle.history_text.proofs.Rows.{ordered_all, ordered_more}
use Rattle.history_text.proofs.histories.Histories.judge.Goals as goal
use Rattle.history_text.proofs.histories.Histories.judge.Goals.{in-Coherent+in_ok-push-in-Coherent, in-Undecided, in-Some, in-None}

pub loop-number-preserved : goal.loop-number-preserved
loop-number-preserved c = λ none. elim c.match-branch-2.branch [
  | in-Coherent+in_ok-push-in-Coherent w ↦
      let before = c.loop-number.invariant (sym w.undecided-is ∙ none) in
      let is = rw w.in-Coherent.is at c.in_ok-order.ensures in
      ordered_more _ _ _ _ c.loop-number.number w.in-Coherent.order
      (ap (λ v. v.items) w.orders-is ∙ w.in_ok-push-in-Coherent.ensures.items) is before
  | in-Undecided w ↦
      let some : Some c.loop-number.number ≡ None = sym w.undecided-is ∙ none in cc
]

pub returns : goal.returns
returns c = elim c.match-undecided.branch [
  | in-Some w ↦ rw w.result-is tt
  | in-None w ↦
      let rows = c.args.self.now.rows.items in
      let all : length rows ≤ c.loop-number.number = omega arith in
      rw w.result-is
      (ordered_all (λ r. initially (inits_at c.args.self.now r)) rows c.loop-number.orders.items c.loop-number.number all
      (c.loop-number.invariant w.in-None.is))
]
