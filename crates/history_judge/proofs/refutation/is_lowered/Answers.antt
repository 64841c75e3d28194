use Rattle.std.proofs.Common.{◌==◌}
use Rattle.std.proofs.lemmas.Bool.{eqb-false, not-true}
use Rattle.slice_log.specs.Log.{initially}
use Rattle.history_judge.proofs.Rules.{lower}
use Rattle.history_judge.proofs.refutation.is_lowered.Goals as goal

pub returns : goal.returns
returns c = λ yes known.
    lower (initially c.args.initial.now) c.in-Some.reader.word.0 c.args.history.now c.args.access c.args.last
    c.args.first (c.is_source.ensures c.if-not-is_source.false) (c.is_write.ensures c.if-not-is_write.false)
    (eqb-false c.args.access c.args.first (not-true (c.args.access == c.args.first) yes)) known
