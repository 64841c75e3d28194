use Rattle.std.proofs.Common.{◌≡◌, ℕ, arith, subst}
use Rattle.drain.proofs.Counting.{whole}
use Rattle.drain.specs.Whole.{AreOnceBelow}
use Rattle.drain.proofs.whole.check_whole.Goals as goal

pub returns-clause-whole : goal.returns-clause-whole
returns-clause-whole g c =
    let setup = g.M.SystemNames.setup in
    let all : c.loop-number.number ≡ setup.cores = omega arith in
    whole setup c.args.cores.now c.counts_of-counts.ensures.known
    (subst (λ (n : ℕ). AreOnceBelow n c.args.cores.now) all c.loop-number.invariant)
