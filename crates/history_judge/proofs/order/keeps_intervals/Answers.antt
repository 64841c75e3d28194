use Rattle.std.proofs.Common.{get_or, refl, sym, arith}
use Rattle.std.proofs.lemmas.Option.{slice_get-get_or}
use Rattle.history_judge.proofs.Checks.{kept-all, kept-more, max_is_one}
use Rattle.history_judge.proofs.order.keeps_intervals.Goals as goal

pub loop-place-preserved : goal.loop-place-preserved
loop-place-preserved c =
    let order = c.args.order.now in
    let k = c.loop-place.place-index in
    kept-more c.args.history.now order k (get_or order k 0) c.loop-place.latest c.max-latest.result c.in-Some.access
    (slice_get-get_or order k 0 c.loop-place-test.true) (sym c.in-Some.ensures.value) (omega arith)
    (omega (arith, c.max-latest.ensures)) (omega (arith, c.max-latest.ensures))
    (max_is_one c.loop-place.latest c.in-Some.access.begin c.max-latest.result c.max-latest.ensures)
    c.loop-place.invariant

pub returns : goal.returns
returns c = λ each. (
  λ yes.
      kept-all c.args.history.now c.args.order.now c.loop-place.place-index c.loop-place.latest
      c.loop-place-test.false c.loop-place.invariant,
  λ keeps. refl,
)
