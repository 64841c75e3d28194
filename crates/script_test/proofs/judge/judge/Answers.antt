use Rattle.std.proofs.Common.{◌≡◌, ◌-◌, ◌+◌, arith, length, drop, take, length-drop, append_assoc}
use Rattle.script_test.proofs.JudgedLemmas.{judge_next, judged_all, tail_is}
use Rattle.script_test.proofs.judge.judge.Goals as goal

pub loop-place-preserved : goal.loop-place-preserved
loop-place-preserved c =
    let wants = c.args.wants.now in
    let answers = c.args.answers.now in
    record {
      taken =
          let left : length (drop c.loop-place.taken wants) ≡ length wants - c.loop-place.taken = length-drop _ _ in
          let few = c.count_before-count.ensures.few in
          let taken = c.loop-place.invariant.taken in
          omega (arith, left, few, taken);
      all = λ others rest. rw (c.in_ok-push_difference.ensures, append_assoc)
          (c.loop-place.invariant.all _
          (judge_next (λ w. (w.line, w.text.now)) (λ a. (a.line, a.text.now)) wants answers
          c.loop-place.taken c.loop-place.place
          c.count_before-count.result _ (take (length wants - c.loop-place.taken) (drop c.loop-place.taken wants))
          (take (length answers - (c.loop-place.place + 1)) (drop (c.loop-place.place + 1) answers))
          (tail_is wants c.loop-place.taken) (tail_is answers (c.loop-place.place + 1))
          c.loop-place-test.true (λ k d. c.count_before-count.ensures.before k d)
          c.count_before-count.ensures.behind _ others c.difference_of.ensures rest));
    }

pub returns : goal.returns
returns c =
    judged_all (λ a. (a.line, a.text.now)) c.args.answers.now c.loop-place.place _ _ _ c.loop-place-test.false
    c.loop-place.invariant.all
