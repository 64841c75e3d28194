use Rattle.std.proofs.Common.{◌≡◌, ◌<◌, Some, length, get_or, slice_get, ap, sym, arith, ◌∙◌}
use Rattle.std.proofs.lemmas.Bool.{false≢true}
use Rattle.std.proofs.lemmas.Option.{slice_get-get_or, slice_get_within}
use Rattle.history_judge.proofs.Marks.{each_once, each_marked, marks_more, not_twice}
use Rattle.history_judge.proofs.order.has_each_once.Goals as goal

pub returns-in-Some-noted : goal.returns-in-Some-noted
returns-in-Some-noted c =
    let order = c.args.order.now in
    let k = c.loop-place.place in
    let places = c.loop-place.places.items in
    let here : slice_get places (get_or order k 0) ≡ Some c.in-Some.noted =
    ap (λ xs. slice_get xs (get_or order k 0)) (sym c.deref.ensures.value) ∙ sym c.in-Some.ensures in (
      λ yes. absurd (false≢true yes),
      λ each.
          absurd (not_twice c.args.count order places k (get_or order k 0) c.in-Some-noted.field-0
          c.loop-place.invariant (slice_get-get_or order k 0 c.loop-place-test.true)
          (here ∙ ap Some c.in-Some-noted.is) each),
    )

pub index_mut-requires : goal.index_mut-requires
index_mut-requires c =
    let order = c.args.order.now in
    let k = c.loop-place.place in
    let places = c.loop-place.places.items in
    let here : slice_get places (get_or order k 0) ≡ Some c.in-Some.noted =
    ap (λ xs. slice_get xs (get_or order k 0)) (sym c.deref.ensures.value) ∙ sym c.in-Some.ensures in
    let within : get_or order k 0 < length places =
    slice_get_within places (get_or order k 0) c.in-Some.noted here in
    omega (arith, c.loop-place.places.ok.0)

pub loop-place-preserved : goal.loop-place-preserved
loop-place-preserved c =
    let order = c.args.order.now in
    let k = c.loop-place.place in
    let places = c.loop-place.places.items in
    let here : slice_get places (get_or order k 0) ≡ Some c.in-Some.noted =
    ap (λ xs. slice_get xs (get_or order k 0)) (sym c.deref.ensures.value) ∙ sym c.in-Some.ensures in
    marks_more c.args.count order places k (get_or order k 0) c.loop-place.invariant
    (slice_get-get_or order k 0 c.loop-place-test.true) (here ∙ ap Some c.in_default-noted.is)

pub returns : goal.returns
returns c =
    let order = c.args.order.now in
    let k = c.loop-place.place in
    let places = c.loop-place.places.items in (
      λ yes.
          each_once c.args.count order places k c.loop-place.invariant c.loop-place-test.false
          (rw c.deref-2.ensures.value at (c.has_all.ensures.0 yes)),
      λ each.
          c.has_all.ensures.1
          (rw c.deref-2.ensures.value
          (each_marked c.args.count order places k c.loop-place.invariant c.loop-place-test.false each)),
    )
