use Rattle.std.proofs.Common.{◌*◌, arith, subst, sym, ◌∙◌}
use mathlib.Core.Bool.{true≢false}
use Rattle.std.specs.Prelude.{IfOk}
use Rattle.std.proofs.lemmas.Result.{IfOk-weaker}
use Rattle.mshr_file.specs.Miss.{bound_of}
use Rattle.litmus_rounds.specs.Run.{AreRounds, HaveEnded, IsStretch, seed_of}
use Rattle.litmus_rounds.proofs.RoundLemmas.{ended_early, ended_fits, next_place, place_fits, seed_behind}
use Rattle.litmus_rounds.proofs.batch.walk_batch.Goals as goal

-- the stretch of this place, none of whose rounds is past those of the batch
pub add_stretch-requires-clause-rounds : goal.add_stretch-requires-clause-rounds
add_stretch-requires-clause-rounds g c =
    let test = c.args.test.now in
    let bound = bound_of test.misses test.config in
    let share = c.args.batch.share in
    let place = c.loop-place.place in
    let within = place_fits c.args.done place c.args.batch.jobs share c.loop-place-test.true c.requires.fits in
    IfOk-weaker c.index.result.now
    (IsStretch test bound (seed_of (seed_of c.args.seed c.args.done) (place * share)) c.args.most share) _
    (λ stretch is. omega (arith, (ended_fits test bound _ c.args.most share stretch.outcomes stretch.ended is).0, within))
    (rw (← c.index.ensures) at (c.in_ok-stretches.ensures.each place c.index.result.now c.loop-place-test.true))

pub add_stretch-requires-clause-round : goal.add_stretch-requires-clause-round
add_stretch-requires-clause-round g c =
    let test = c.args.test.now in
    let bound = bound_of test.misses test.config in
    let share = c.args.batch.share in
    let place = c.loop-place.place in
    let within = place_fits c.args.done place c.args.batch.jobs share c.loop-place-test.true c.requires.fits in
    IfOk-weaker c.index.result.now
    (IsStretch test bound (seed_of (seed_of c.args.seed c.args.done) (place * share)) c.args.most share) _
    (λ stretch is. omega (arith, (ended_fits test bound _ c.args.most share stretch.outcomes stretch.ended is).1, within))
    (rw (← c.index.ensures) at (c.in_ok-stretches.ensures.each place c.index.result.now c.loop-place-test.true))

-- a round of the stretch has no outcome
pub returns-then-not-is_done : goal.returns-then-not-is_done
returns-then-not-is_done g c =
    let test = c.args.test.now in
    let bound = bound_of test.misses test.config in
    let share = c.args.batch.share in
    let place = c.loop-place.place in
    let within = place_fits c.args.done place c.args.batch.jobs share c.loop-place-test.true c.requires.fits in
    let stretch = rw (← c.index.ensures) at
    (c.in_ok-stretches.ensures.each place c.index.result.now c.loop-place-test.true) in
    let from = subst (λ s. IfOk c.index.result.now (IsStretch test bound s c.args.most share))
    (seed_behind c.args.seed c.args.done (place * share)) stretch in
    let ended = c.in_ok-ended.ensures test bound c.args.seed c.args.most share c.loop-place.invariant from in
    ended_early test bound c.args.seed c.args.most _ _ c.add_stretch.new.outcomes c.in_ok-ended.ended ended
    (λ is. true≢false (sym (c.is_done.ensures.1 is) ∙ c.if-not-is_done.true)) within

pub loop-place-preserved : goal.loop-place-preserved
loop-place-preserved g c =
    let test = c.args.test.now in
    let bound = bound_of test.misses test.config in
    let share = c.args.batch.share in
    let place = c.loop-place.place in
    let stretch = rw (← c.index.ensures) at
    (c.in_ok-stretches.ensures.each place c.index.result.now c.loop-place-test.true) in
    let from = subst (λ s. IfOk c.index.result.now (IsStretch test bound s c.args.most share))
    (seed_behind c.args.seed c.args.done (place * share)) stretch in
    let ended = c.in_ok-ended.ensures test bound c.args.seed c.args.most share c.loop-place.invariant from in
    let all = subst (HaveEnded test bound c.args.seed c.args.most _ c.add_stretch.new.outcomes)
    (c.is_done.ensures.0 c.if-not-is_done.false) ended in
    subst (λ count. AreRounds test bound c.args.seed c.args.most count c.add_stretch.new.outcomes)
    (next_place c.args.done place share) all
