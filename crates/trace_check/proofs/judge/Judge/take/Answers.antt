use Rattle.std.proofs.Common.{cond, eqb, get_or, ap, rules, ◌∙◌}
use Rattle.std.proofs.lemmas.Result.{on_ok_weaker}
use Rattle.slice_log.specs.Op.{value_of}
use Rattle.trace_check.proofs.VerdictLemmas.{knows-take}
use Rattle.trace_check.proofs.judge.Judge.take.Goals as goal

pub returns : goal.returns
returns c =
    let entry = c.args.entry.now in
    let values = c.args.self.now.values.items in
    let left = c.performed-value.ensures ∙ ap (value_of entry.op) c.value.ensures in
    on_ok_weaker c.set.result
    (λ kept initial log knows right. knows-take _ _ initial log entry
    (λ w. c.in_ok-set_slot.ensures w ∙ ap (λ n. cond (eqb entry.word.0 w) n (get_or values w 0)) left)
    (λ line core. search rules)
    knows right)
    c.set.ensures
