use Rattle.std.proofs.Common.{◌≡◌, ◌/◌, ◌∙◌, ap, sym, refl, lt-ltb, ltb-true, Some, None}
use Rattle.trace_check.specs.Latest.{latest_of}
use Rattle.trace_check.proofs.SeqLemmas.{in_order_alone, in_order_above, above_in_order}
use Rattle.trace_check.proofs.judge.Judge.is_in_order.Goals as goal

pub returns-in-Some : goal.returns-in-Some
returns-in-Some c = λ log greatest.
    let latest = c.args.self.now.latest in
    let entry = c.args.entry.now in
    let kept : latest_of latest (entry.word.0 / 8) entry.core.0 ≡ Some c.in-Some.seq =
    ap (λ l. latest_of latest l entry.core.0) (sym c.line_of.ensures) ∙ sym c.in-Some.ensures in (
      λ above. in_order_above latest log entry c.in-Some.seq greatest kept (ltb-true _ _ above),
      λ in_order. lt-ltb _ _ (above_in_order latest log entry c.in-Some.seq greatest kept in_order),
    )

pub returns-in-None : goal.returns-in-None
returns-in-None c = λ log greatest.
    let latest = c.args.self.now.latest in
    let entry = c.args.entry.now in
    let kept : latest_of latest (entry.word.0 / 8) entry.core.0 ≡ None =
    ap (λ l. latest_of latest l entry.core.0) (sym c.line_of.ensures) ∙ sym c.in-None.ensures in
    (λ _. in_order_alone latest log entry greatest kept, λ _. refl)
