use Rattle.std.proofs.Common.{◌==◌}
use Rattle.std.proofs.lemmas.Bool.{eqb-false, not-true}
use Rattle.slice_log.specs.Log.{initially}
use Rattle.history_judge.proofs.Rules.{raise}
use Rattle.history_judge.proofs.refutation.is_raised.Goals as goal

pub returns : goal.returns
returns c = λ yes known.
    raise (initially c.args.initial.now) c.in-Some.reader.word.0 c.args.history.now c.args.first c.args.access
    c.args.last (c.is_source.ensures c.if-not-is_source.false) (c.is_write.ensures c.if-not-is_write.false)
    (eqb-false c.args.access c.args.last (not-true (c.args.access == c.args.last) yes)) known
