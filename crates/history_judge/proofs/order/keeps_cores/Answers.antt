use Rattle.std.proofs.Common.{◌≡◌, ◌<◌, length, get_or, refl, rules, sym, arith}
use Rattle.std.proofs.lemmas.Bool.{false≢true}
use Rattle.std.proofs.lemmas.List.{get_or_read}
use Rattle.std.proofs.lemmas.Option.{slice_get-get_or}
use Rattle.history_judge.proofs.Checks.{bounded-more, bounded-all, no_bounds, not_outside, not_ordered}
use Rattle.history_judge.proofs.order.keeps_cores.Goals as goal

pub loop-place-init : goal.loop-place-init
loop-place-init c =
    no_bounds c.args.history.now c.args.order.now c.in_ok-bounds.bounds.items 256 (c.in_ok-bounds.ensures.items_if_clones_equal (λ y h. h)) refl

pub returns-in_default : goal.returns-in_default
returns-in_default c = λ each. (
  λ yes. absurd (false≢true yes),
  λ ordered.
      absurd (not_outside c.args.history.now c.args.order.now c.loop-place.place-index c.loop-place-test.true
      c.in_default.ensures.value each),
)

pub returns-then-place-index : goal.returns-then-place-index
returns-then-place-index c = λ each.
    let order = c.args.order.now in
    let k = c.loop-place.place-index in
    let items = c.loop-place.bounds.items in
    let a = c.in-Some.access in
    let size : length items ≡ 256 = c.loop-place.invariant.size in
    let core : a.core.0 < 256 = search rules in
    let read : c.index.result.now ≡ get_or items a.core.0 0 =
    get_or_read items a.core.0 c.index.result.now (omega arith) c.index.ensures 0 in (
      λ yes. absurd (false≢true yes),
      λ ordered.
          absurd (not_ordered c.args.history.now order items k (get_or order k 0) a
          (slice_get-get_or order k 0 c.loop-place-test.true) (sym c.in-Some.ensures.value) (omega arith)
          c.loop-place.invariant ordered),
    )

pub loop-place-preserved : goal.loop-place-preserved
loop-place-preserved c =
    let order = c.args.order.now in
    let k = c.loop-place.place-index in
    let items = c.loop-place.bounds.items in
    let a = c.in-Some.access in
    let size : length items ≡ 256 = c.loop-place.invariant.size in
    let core : a.core.0 < 256 = search rules in
    let read : c.index.result.now ≡ get_or items a.core.0 0 =
    get_or_read items a.core.0 c.index.result.now (omega arith) c.index.ensures 0 in
    bounded-more c.args.history.now order items k (get_or order k 0) a
    (slice_get-get_or order k 0 c.loop-place-test.true) (sym c.in-Some.ensures.value) core (omega arith)
    c.loop-place.invariant

pub returns : goal.returns
returns c = λ each. (
  λ yes.
      bounded-all c.args.history.now c.args.order.now c.loop-place.bounds.items c.loop-place.place-index
      c.loop-place-test.false c.loop-place.invariant,
  λ keeps. refl,
)
