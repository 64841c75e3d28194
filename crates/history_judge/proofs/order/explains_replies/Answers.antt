use Rattle.std.proofs.Common.{get_or, nat_eq, refl, rules, sym, ◌∙◌}
use Rattle.std.specs.HashMap.{get}
use Rattle.std.proofs.lemmas.Bool.{false≢true, ne_eqb}
use Rattle.std.proofs.lemmas.Option.{slice_get-get_or}
use Rattle.slice_log.specs.Log.{initially}
use Rattle.history_judge.proofs.Checks.{explained-all, explained-more, explained-none, not_outside, unexplained, value_now}
use Rattle.history_judge.proofs.order.explains_replies.Goals as goal

pub loop-place-init : goal.loop-place-init
loop-place-init c =
    explained-none (initially c.args.initial.now) c.args.history.now c.args.order.now (get nat_eq c.new-values.result)
    (λ w. search (rules, c.new-values.ensures.empty))

pub returns-in_default : goal.returns-in_default
returns-in_default c = λ each. (
  λ yes. absurd (false≢true yes),
  λ legal.
      absurd (not_outside c.args.history.now c.args.order.now c.loop-place.place-index c.loop-place-test.true
      c.in_default.ensures.value each),
)

pub returns-then-access-reply_to : goal.returns-then-access-reply_to
returns-then-access-reply_to c = λ each.
    let initial = initially c.args.initial.now in
    let order = c.args.order.now in
    let k = c.loop-place.place-index in
    let is =
    value_now initial c.args.history.now order k (get nat_eq c.loop-place.values) c.in-Some.access.word.0
    c.value_of-value.result c.value_of-value.type_inv c.value_of-value.ensures c.loop-place.invariant in (
      λ yes. absurd (false≢true yes),
      λ legal.
          absurd (unexplained initial c.args.history.now order k (get_or order k 0) c.value_of-value.result
          c.in-Some.access (slice_get-get_or order k 0 c.loop-place-test.true) (sym c.in-Some.ensures.value)
          (λ same. c.if-access-reply_to.true (same ∙ sym c.reply_to.ensures)) is legal),
    )

pub loop-place-preserved : goal.loop-place-preserved
loop-place-preserved c =
    let initial = initially c.args.initial.now in
    let order = c.args.order.now in
    let k = c.loop-place.place-index in
    let word = c.in-Some.access.word.0 in
    let updates = c.in_ok-insert.ensures.updates in
    explained-more initial c.args.history.now order k (get_or order k 0) c.value_of-value.result c.performed.result
    c.in-Some.access (get nat_eq c.loop-place.values) (get nat_eq c.insert.new.self)
    (slice_get-get_or order k 0 c.loop-place-test.true) (sym c.in-Some.ensures.value) c.loop-place.invariant
    (value_now initial c.args.history.now order k (get nat_eq c.loop-place.values) word c.value_of-value.result
    c.value_of-value.type_inv c.value_of-value.ensures c.loop-place.invariant)
    (c.if-access-reply_to.false ∙ c.reply_to.ensures) c.performed.ensures updates.1
    (λ w apart. updates.2 w (ne_eqb word w (λ same. apart (sym same))))

pub returns : goal.returns
returns c = λ each. (
  λ yes.
      explained-all (initially c.args.initial.now) c.args.history.now c.args.order.now c.loop-place.place-index
      (get nat_eq c.loop-place.values) c.loop-place-test.false c.loop-place.invariant,
  λ legal. refl,
)
