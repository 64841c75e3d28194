use Rattle.std.proofs.Common.{◌≡◌, ◌+◌, suc, arith, subst}
use Rattle.litmus.specs.Coverage.{AreCountsOfRounds}
use Rattle.mshr_file.specs.Miss.{bound_of}
use Rattle.litmus.proofs.coverage.count_rounds.Goals as goal

pub loop-round-preserved : goal.loop-round-preserved
loop-round-preserved g c =
    let test = c.args.test.now in
    let next : suc c.loop-round.round ≡ c.loop-round.round + 1 = omega arith in
    subst
    (λ count. AreCountsOfRounds test (bound_of test.misses test.config) c.args.seed c.args.most count
    c.status_with-status.result c.add_all.new.self)
    next (
      c.loop-round.status,
      c.in_ok-more.ended,
      c.loop-round.coverage,
      c.in_ok-more.more,
      c.loop-round.invariant,
      c.in_ok-more.ensures.counted,
      c.status_with-status.ensures,
      c.in-Ok.ensures.added,
    )
