use Rattle.std.proofs.Common.{sym, arith, ◌∙◌, ap, ◌≡◌, true}
use Rattle.trace_check.specs.Verdict.{IsWrong}
use Rattle.slice_log.specs.Op.{reply_of}
use Rattle.trace_check.proofs.judge.Judge.fault.Goals as goal

pub returns-then-entry-reply_to : goal.returns-then-entry-reply_to
unfolding IsWrong
returns-then-entry-reply_to c = λ initial log count knows same.
    let entry = c.args.entry.now in
    let asked = c.reply_to.ensures ∙ ap (reply_of entry.op) (c.value.ensures ∙ knows.values entry.word.0) in
    c.if-entry-reply_to.true (same ∙ sym asked)

pub returns-then-not-is_in_order : goal.returns-then-not-is_in_order
unfolding IsWrong
returns-then-not-is_in_order c = λ initial log count knows.
    let entry = c.args.entry.now in
    let asked = c.reply_to.ensures ∙ ap (reply_of entry.op) (c.value.ensures ∙ knows.values entry.word.0) in (
      c.if-entry-reply_to.false ∙ asked,
      λ in_order. let is : c.is_in_order.result ≡ true = (c.is_in_order.ensures log knows.greatest).1 in_order in cc,
    )

pub returns-then-entry-number : goal.returns-then-entry-number
unfolding IsWrong
returns-then-entry-number c = λ initial log count knows.
    let entry = c.args.entry.now in
    let asked = c.reply_to.ensures ∙ ap (reply_of entry.op) (c.value.ensures ∙ knows.values entry.word.0) in (
      c.if-entry-reply_to.false ∙ asked,
      (c.is_in_order.ensures log knows.greatest).0 c.if-not-is_in_order.false,
      omega arith,
    )
