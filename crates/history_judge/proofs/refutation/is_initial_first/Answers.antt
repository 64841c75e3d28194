use Rattle.std.proofs.Common.{◌==◌}
use Rattle.std.proofs.lemmas.Bool.{eqb-false, not-true}
use Rattle.slice_log.specs.Log.{initially}
use Rattle.history_judge.proofs.Rules.{initial_before}
use Rattle.history_judge.proofs.refutation.is_initial_first.Goals as goal

pub returns : goal.returns
returns c = λ yes.
    initial_before (initially c.args.initial.now) c.in-Some.reader.word.0 c.args.history.now c.args.first c.args.last
    (c.is_initial.ensures c.if-not-is_initial.false) (c.is_write.ensures c.if-not-is_write.false)
    (eqb-false c.args.first c.args.last (not-true (c.args.first == c.args.last) yes))
