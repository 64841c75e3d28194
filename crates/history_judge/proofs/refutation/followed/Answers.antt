use Rattle.slice_log.specs.Log.{initially}
use Rattle.history_judge.proofs.Rules.{chained}
use Rattle.history_judge.proofs.refutation.followed.Goals as goal

pub returns-then-comes_first : goal.returns-then-comes_first
returns-then-comes_first c =
    chained (initially c.args.initial.now) c.args.history.now c.args.first c.args.last c.in-Next.access
    c.requires.known (c.comes_first.ensures c.if-comes_first.true)
